use Rattle.std.proofs.Common.{◌≡◌, ◌≤◌, ◌+◌, get_or}
use Rattle.re_labels.specs.TreeGrowth.{places_up}
use Rattle.re_labels.proofs.prefix_tree.up_from.Given as goal

abbrev pub invariant-loop-level : goal.invariant-loop-level
invariant-loop-level l = record {
  low : l._level ≤ l.count;
  at : l.at ≡ get_or (places_up l.nodes l.start (l.count + 1)) l._level 0;
}
