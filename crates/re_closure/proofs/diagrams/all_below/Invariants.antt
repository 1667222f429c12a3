use Rattle.std.proofs.Common.{◌≡◌, ◌≤◌, drop, length}
use Rattle.re_closure.specs.Diagrams.{all_below}
use Rattle.re_closure.proofs.diagrams.all_below.Given as goal

-- the edges from a place on are taken
abbrev pub invariant-edges : goal.invariant-edges
invariant-edges l = record {
  within : l.left ≤ length l.edges;
  below : l.below.items ≡ all_below (drop l.left l.edges) l.labels;
}

abbrev pub decreases-edges : goal.decreases-edges
decreases-edges l = l.left
