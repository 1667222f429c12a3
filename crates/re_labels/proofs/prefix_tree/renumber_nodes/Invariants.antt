use Rattle.std.proofs.Common.{◌≡◌, ◌<◌, ◌≤◌, ℕ, length}
use Rattle.re_labels.specs.PrefixTrees.{node_at}
use Rattle.re_labels.specs.Renumbered.{node_image}
use Rattle.re_labels.proofs.prefix_tree.renumber_nodes.Given as goal

abbrev pub invariant-loop-place : goal.invariant-loop-place
invariant-loop-place l = record {
  count : length l.nodes ≡ length l.fn.nodes;
  done : (q : ℕ) → q < l.place → node_at l.nodes q ≡ node_image l.images (node_at l.fn.nodes q);
  left : (q : ℕ) → l.place ≤ q → node_at l.nodes q ≡ node_at l.fn.nodes q;
}
