use Rattle.std.proofs.Common.{◌≡◌, map, take}
use Rattle.re_closure.specs.Diagrams.{with_lower}
use Rattle.re_closure.proofs.diagrams.with_edge.Given as goal

abbrev pub invariant-loop-set : goal.invariant-loop-set
invariant-loop-set l = l.wider.items ≡ map (with_lower l.lower l.high) (take l.set-index l.sets)
