use Rattle.std.proofs.Common.{◌≡◌, ◌<◌, ℕ, ◌==◌, count_by, get_or, take}
use Rattle.re_labels.specs.PrefixTrees.{node_at}
use Rattle.re_labels.specs.TreeGrowth.{places_up, with_leaves}
use Rattle.re_labels.proofs.prefix_tree.count_up.Given as goal

abbrev pub invariant-loop-level : goal.invariant-loop-level
invariant-loop-level l = record {
  label : (q : ℕ) → (node_at l.nodes q).label ≡ (node_at l.initial.nodes q).label;
  next : (q : ℕ) → (node_at l.nodes q).next ≡ (node_at l.initial.nodes q).next;
  parent : (q : ℕ) → (node_at l.nodes q).parent ≡ (node_at l.initial.nodes q).parent;
  kind : (q : ℕ) → (node_at l.nodes q).kind ≡ with_leaves (node_at l.initial.nodes q).kind (count_by (λ p. p == q) (take l._level (places_up l.initial.nodes l.start l.count)));
  at : l._level < l.count → l.at ≡ get_or (places_up l.initial.nodes l.start l.count) l._level 0;
}
