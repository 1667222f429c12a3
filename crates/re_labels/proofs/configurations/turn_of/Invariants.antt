use Rattle.std.proofs.Common.{◌≤◌}
use Rattle.re_labels.specs.LeafWalks.{IsEnd}
use Rattle.re_labels.proofs.configurations.turn_of.Given as goal

abbrev pub invariant-up : goal.invariant-up
invariant-up l = record {
  most : l.depth ≤ l.degree;
  end : IsEnd l.degree l.depth l.nodes l.way;
}

abbrev pub decreases-up : goal.decreases-up
decreases-up l = l.depth
