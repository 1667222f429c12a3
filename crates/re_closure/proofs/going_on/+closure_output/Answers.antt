use Rattle.std.proofs.Common.{◌≡◌, ◌+◌, ap, arith, length, refl, subst, suc, ◌∙◌}
use Rattle.std.proofs.lemmas.Result.{IfOk-weaker}
use Rattle.re_chains.proofs.WordsGiven.{both_ok}
use Rattle.re_settings.proofs.EndNumbers.{some_number}
use Rattle.re_closure.proofs.SaidWithin.{closed_within, next_within, open_within, stop_within}
use Rattle.re_closure.specs.ClosureWords.{Closes, stop_outcome}
use Rattle.re_frame.specs.Outcomes.{outcome_of}
use Rattle.re_closure.proofs.going_on.+closure_output.Goals as goal

pub returns-in-Closed : goal.returns-in-Closed
returns-in-Closed t c = closed_within c.args.setting.now c.args.chain.now.certificate c.args.more c.in-Closed.output (subst (Closes c.args.setting.now c.args.chain.now.certificate) c.in-Closed.is c.in_ok-output.ensures)

pub returns-then-more-eq0 : goal.returns-then-more-eq0
returns-then-more-eq0 t c =
    open_within c.args.setting.now c.args.chain.now.certificate c.args.more c.in-Open.output c.if-more-eq0.true (subst (Closes c.args.setting.now c.args.chain.now.certificate) c.in-Open.is c.in_ok-output.ensures)

pub returns-in-Ok : goal.returns-in-Ok
returns-in-Ok t c =
    IfOk-weaker c.closure_output.result _ _
    (λ output may. next_within c.args.setting.now c.args.chain.now.certificate c.args.more c.in-Open.output c.in-Ok.next.certificate (outcome_of output) (some_number c.args.more c.if-more-eq0.false)
    (subst (Closes c.args.setting.now c.args.chain.now.certificate) c.in-Open.is c.in_ok-output.ensures) c.in-Ok.ensures.none c.in-Ok.ensures.stepped may) c.closure_output.ensures

pub returns : goal.returns
returns t c =
    let number : length c.steps.result.now + 1 ≡ suc (length c.args.chain.now.certificate.steps) = (let same = ap length c.steps.ensures.steps in omega (arith, same)) in
    both_ok _ _ _ c.stop_output.result c.stop_output.ensures.told c.stop_output.ensures.not_memory
    (λ output e other. stop_within c.args.setting.now c.args.chain.now.certificate c.args.more c.in-Open.output c.in-Err.fault (outcome_of output) (some_number c.args.more c.if-more-eq0.false)
    (subst (Closes c.args.setting.now c.args.chain.now.certificate) c.in-Open.is c.in_ok-output.ensures) (c.in-Err.ensures.stop c.in-Err.fault refl other) (e ∙ ap (λ n. stop_outcome n c.in-Err.fault) number))
