use Rattle.std.proofs.Common.{subst}
use Rattle.std.specs.Prelude.{IfSome}
use Rattle.re_evidence.specs.declared.types.Claim.TheVariants.{AtMost, Never}
use Rattle.re_settle.specs.declared.types.Shown.{Shown}
use Rattle.re_settle.proofs.GivenTogether.{most_settled, never_settled}
use Rattle.re_settle.specs.GivenWays.{IsKnownGiven}
use Rattle.re_settle.proofs.settling_given.untold.Goals as goal

pub returns-in-Some : goal.returns-in-Some
returns-in-Some c =
    never_settled c.args.times c.args.problem.now c.args.input.now c.in-Some.way
    (subst (λ found. IfSome found (IsKnownGiven c.args.times c.args.problem.now c.args.input.now Never)) c.in-Some.is c.in_ok-way.ensures)

pub returns-in-Some-2 : goal.returns-in-Some-2
returns-in-Some-2 c =
    most_settled c.args.times c.args.problem.now c.args.input.now c.in-Some-2.most
    (subst (λ found. IfSome found (λ (shown : Shown). IsKnownGiven c.args.times c.args.problem.now c.args.input.now (AtMost shown.rounds) shown.way)) c.in-Some-2.is c.in_ok-most.ensures)

pub returns-in-Some-3 : goal.returns-in-Some-3
returns-in-Some-3 c =
    never_settled c.args.times c.args.problem.now c.args.input.now c.in-Some-3.way
    (subst (λ found. IfSome found (IsKnownGiven c.args.times c.args.problem.now c.args.input.now Never)) c.in-Some-3.is c.in_ok-way-2.ensures)
