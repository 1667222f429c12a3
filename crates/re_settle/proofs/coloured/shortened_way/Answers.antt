use Rattle.std.proofs.Common.{subst}
use Rattle.std.specs.Prelude.{IfSome}
use Rattle.re_evidence.specs.Colours.{IsColouringOf}
use Rattle.re_settle.proofs.coloured.shortened_way.Goals as goal

pub shortest_way-requires-clause-input : goal.shortest_way-requires-clause-input
shortest_way-requires-clause-input c =
    subst (λ found. IfSome found (IsColouringOf c.args.problem.now c.args.side c.few_colours-colours.result)) c.in-Some.is c.in_ok-input.ensures.colouring
