use Rattle.std.proofs.Common.{inl, inr, subst}
use Rattle.re_frame.specs.Outcomes.{outcome_of}
use Rattle.re_closure.proofs.SaidWithin.{found_text}
use Rattle.re_closure.specs.ClosureWords.{IsJudgedFixed}
use Rattle.re_closure.proofs.going_on.fixed_output.Goals as goal

pub returns-in-Some : goal.returns-in-Some
returns-in-Some c =
    let declined = subst (IsJudgedFixed c.args.setting.now c.args.chain.now c.args.fixed.now) c.in-Some.is c.in_ok-output.ensures in
    (c.requires.taken, inr (c.args.fixed.now, c.requires.room, c.requires.closed, declined))

pub returns-in_ok-print_in-in-None : goal.returns-in_ok-print_in-in-None
returns-in_ok-print_in-in-None c =
    let on = subst (IsJudgedFixed c.args.setting.now c.args.chain.now c.args.fixed.now) c.in-None.is c.in_ok-output.ensures in
    inl (
      c.requires.taken,
      inl (found_text c.args.setting.now c.args.chain.now c.args.fixed.now (outcome_of c.in_ok-print_in-in-None.field-0) c.requires.room c.requires.closed on
          c.in_ok-print_in-in-None.ensures.outcome c.in_ok-print_in-in-None.ensures.text),
    )
