use Rattle.std.proofs.Common.{subst}
use Rattle.std.specs.Prelude.{IfSome}
use Rattle.re_evidence.specs.declared.types.Claim.TheVariants.{Never}
use Rattle.re_settle.proofs.GivenTogether.{never_settled}
use Rattle.re_settle.specs.GivenWays.{IsKnownGiven}
use Rattle.re_settle.proofs.settling_given.searched.Goals as goal

pub returns-in-Some : goal.returns-in-Some
returns-in-Some c =
    never_settled c.args.times c.args.problem.now c.args.input.now c.in-Some.way
    (subst (λ found. IfSome found (IsKnownGiven c.args.times c.args.problem.now c.args.input.now Never)) c.in-Some.is c.in_ok-way.ensures)
