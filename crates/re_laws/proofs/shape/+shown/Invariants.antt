use Rattle.std.proofs.Common.{take, ◌-◌}
use Rattle.std.specs.Prelude.{All}
use Rattle.re_laws.specs.Shown.{IsShownChild}
use Rattle.re_laws.proofs.shape.+shown.Given as goal

abbrev pub invariant-are_shown-loop-child : goal.invariant-are_shown-loop-child
invariant-are_shown-loop-child g l = All (IsShownChild l.other l.own (l.depth - 1)) (take l.child-index l.children.items)
