use Rattle.std.proofs.Common.{◌≡◌, ◌≤◌, length}
use Rattle.re_labels.specs.PrefixTrees.{prefix}
use Rattle.re_labels.proofs.prefix_tree.shared.Given as goal

abbrev pub invariant-loop-place : goal.invariant-loop-place
invariant-loop-place l = record {
  most : l.place ≤ length l.labels;
  same : prefix l.labels l.place ≡ prefix l.others l.place;
}
