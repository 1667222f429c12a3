use Rattle.std.proofs.Common.{◌<◌, ◌-◌, ℕ, List, cond, eqb, length}
use Rattle.re_labels.specs.PrefixTrees.{IsTree, held_configs, node_at}
use Rattle.re_labels.specs.TreeWalks.{IsWalked}
use Rattle.re_labels.proofs.prefix_tree.child_of.Given as goal

abbrev pub invariant-loop-at : goal.invariant-loop-at
invariant-loop-at l = record {
  within : l.at < length l.nodes;
  behind : l.before < length l.nodes;
  walked : (degree : ℕ) (key : ℕ → List ℕ) → IsTree degree l.nodes (held_configs l.nodes) key → length (key l.parent) < degree → IsWalked l.nodes key (key l.parent) l.label l.before l.at;
}

abbrev pub decreases-loop-at : goal.decreases-loop-at
decreases-loop-at l = cond (eqb l.at 0) 0 (256 - (node_at l.nodes l.at).label)
