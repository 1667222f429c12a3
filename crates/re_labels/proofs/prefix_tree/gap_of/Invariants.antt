use Rattle.std.proofs.Common.{◌≡◌, ◌<◌, ◌≤◌, ℕ, List, length}
use Rattle.re_labels.specs.PrefixTrees.{IsTree, held_configs, prefix}
use Rattle.re_labels.proofs.prefix_tree.gap_of.Given as goal

abbrev pub invariant-loop-depth : goal.invariant-loop-depth
invariant-loop-depth l = record {
  within : l.place < length l.nodes;
  deep : l.depth ≤ length l.config;
  on_way : (key : ℕ → List ℕ) → IsTree (length l.config) l.nodes (held_configs l.nodes) key → key l.place ≡ prefix l.config l.depth;
}
