use Rattle.std.proofs.Common.{◌≡◌, ◌<◌, ◌+◌, ◌-◌, ◌∷◌, ℕ, List, length, count_by}
use Rattle.re_labels.specs.PrefixTrees.{IsTree, held_configs, node_at}
use Rattle.re_labels.specs.TreeWalks.{precedes}
use Rattle.re_labels.proofs.prefix_tree.child_with.Given as goal

abbrev pub invariant-loop-rest : goal.invariant-loop-rest
invariant-loop-rest l = record {
  within : l.at < length l.nodes;
  key : (degree : ℕ) (key : ℕ → List ℕ) → IsTree degree l.nodes (held_configs l.nodes) key → length (key l.parent) < degree → key l.at ≡ (node_at l.nodes l.at).label ∷ key l.parent;
  rank : (degree : ℕ) (key : ℕ → List ℕ) → IsTree degree l.nodes (held_configs l.nodes) key → length (key l.parent) < degree
      → l.rest + count_by (precedes (key l.at)) (held_configs l.nodes) ≡ l.number + count_by (precedes (key l.parent)) (held_configs l.nodes);
}

abbrev pub decreases-loop-rest : goal.decreases-loop-rest
decreases-loop-rest l = 256 - (node_at l.nodes l.at).label
