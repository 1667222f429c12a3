use Rattle.std.proofs.Common.{subst}
use Rattle.std.specs.Prelude.{IfSome}
use Rattle.re_settle.specs.Ways.{IsKnown}
use Rattle.re_evidence.specs.declared.types.Claim.TheVariants.{AtMost, MoreThan}
use Rattle.re_settle.specs.declared.types.Shown.{Shown}
use Rattle.re_settle.proofs.Together.{next_settled}
use Rattle.re_settle.proofs.settling.by_steps.Goals as goal

pub returns-then-upper-lower : goal.returns-then-upper-lower
returns-then-upper-lower c =
    next_settled c.args.times c.args.problem.now c.in-Some.lower c.in-Some-2.upper c.names-names.ensures.problem.problem c.requires.unfixed
    (subst (λ found. IfSome found (λ (shown : Shown). IsKnown c.args.times c.args.problem.now (MoreThan shown.rounds) shown.way)) c.in-Some.is c.in_ok-lower.ensures)
    (subst (λ found. IfSome found (λ (shown : Shown). IsKnown c.args.times c.args.problem.now (AtMost shown.rounds) shown.way)) c.in-Some-2.is c.in_ok-upper.ensures)
    c.if-upper-lower.true
