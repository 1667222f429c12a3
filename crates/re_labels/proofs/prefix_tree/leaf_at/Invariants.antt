use Rattle.std.proofs.Common.{◌≡◌, ◌<◌, ◌+◌, ℕ, List, length, count_by}
use Rattle.re_labels.specs.PrefixTrees.{IsTree, held_configs, leaves_of, node_at}
use Rattle.re_labels.specs.TreeWalks.{precedes}
use Rattle.re_labels.proofs.prefix_tree.leaf_at.Given as goal

abbrev pub invariant-loop-level : goal.invariant-loop-level
invariant-loop-level l = record {
  within : l.place < length l.nodes;
  less : l.rest < leaves_of (node_at l.nodes l.place).kind;
  depth : (key : ℕ → List ℕ) → IsTree l.degree l.nodes (held_configs l.nodes) key → length (key l.place) ≡ l._level;
  rank : (key : ℕ → List ℕ) → IsTree l.degree l.nodes (held_configs l.nodes) key → l.rest + count_by (precedes (key l.place)) (held_configs l.nodes) ≡ l.number;
}
