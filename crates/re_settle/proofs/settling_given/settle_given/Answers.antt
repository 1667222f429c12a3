use Rattle.std.proofs.Common.{Some, arith, refl, subst}
use Rattle.std.proofs.lemmas.Result.{IfOk-weaker}
use Rattle.re_given_words.specs.Counting.{IsCounted}
use Rattle.re_given_words.specs.declared.counting.Counted.TheVariants as counted
use Rattle.re_problem.specs.NamedProblems.{unnamed}
use Rattle.re_evidence.specs.declared.types.Claim.TheVariants.{Exactly, MoreThan}
use Rattle.re_settle.proofs.GivenKnown.{at_once, count_known, shown_as, untold_at_once}
use Rattle.re_settle.proofs.GivenTogether.{exactly_settled}
use Rattle.re_settle.proofs.settling_given.settle_given.Goals as goal

pub returns-in-Exactly-clause-settled : goal.returns-in-Exactly-clause-settled
returns-in-Exactly-clause-settled c =
    let rounds = c.in-Exactly.rounds in
    let counts = at_once (unnamed c.args.problem.now) (Some (unnamed c.args.input.now)) rounds (subst (IsCounted (unnamed c.args.problem.now) (Some (unnamed c.args.input.now)) 0) c.in-Exactly.is c.in_ok-rounds.ensures) in
    let known = count_known c.args.times c.args.problem.now c.args.input.now 8 (counted.Exactly rounds) (Exactly rounds) c.names-names.ensures.problem.problem c.requires.input (omega arith) counts refl in
    exactly_settled c.args.times c.args.problem.now c.args.input.now c.by_rounds.result
    (shown_as c.args.times c.args.problem.now c.args.input.now Exactly c.by_rounds.result rounds 8 c.by_rounds.ensures.rounds c.by_rounds.ensures.way known)

pub behind_zero-requires-clause-few : goal.behind_zero-requires-clause-few
behind_zero-requires-clause-few c =
    let rounds = c.in-MoreThan.rounds in
    let counts = subst (IsCounted (unnamed c.args.problem.now) (Some (unnamed c.args.input.now)) 0) c.in-MoreThan.is c.in_ok-rounds.ensures in
    let known = count_known c.args.times c.args.problem.now c.args.input.now 0 (counted.MoreThan rounds) (MoreThan rounds) c.names-names.ensures.problem.problem c.requires.input (omega arith) counts refl in
    shown_as c.args.times c.args.problem.now c.args.input.now MoreThan c.by_rounds-few.result rounds 0 c.by_rounds-few.ensures.rounds c.by_rounds-few.ensures.way known

pub returns-in-Tried-clause-none : goal.returns-in-Tried-clause-none
returns-in-Tried-clause-none c =
    let counts = subst (IsCounted (unnamed c.args.problem.now) (Some (unnamed c.args.input.now)) 0) c.in-Tried.is c.in_ok-rounds.ensures in
    IfOk-weaker c.untold.result _ _ (λ found known none. untold_at_once (unnamed c.args.problem.now) (unnamed c.args.input.now) c.in-Tried.field-0 counts) c.untold.ensures
