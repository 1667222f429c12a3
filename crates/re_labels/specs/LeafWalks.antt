-- Ways down a prefix tree to a leaf, and on to the next one.
use Rattle.std.specs.Prelude.{◌≡◌, ℕ, ◌+◌, ◌<◌, List, ◌∷◌, length, slice_index_or, count_by}
use Rattle.re_labels.specs.declared.configurations.Way.{Way}
use Rattle.re_labels.specs.declared.prefix_tree.Node.{Node}
use Rattle.re_labels.specs.PrefixTrees.{IsTree, begins, held_configs, node_at}
use Rattle.re_labels.specs.TreeWalks.{precedes}

-- how many configurations come before all those that begin with the labels above a place
abbrev pub start_of : List Node → (ℕ → List ℕ) → ℕ → ℕ
start_of nodes key place = count_by (precedes (key place)) (held_configs nodes)

-- how many configurations begin with the labels above a place
abbrev pub count_at : List Node → (ℕ → List ℕ) → ℕ → ℕ
count_at nodes key place = count_by (begins (key place)) (held_configs nodes)

-- the places lead from the root to a node at this depth, each to a child of the one before
pub record IsPath (nodes : List Node) (key : ℕ → List ℕ) (places : List ℕ) (depth : ℕ) : Type 0 where
  pub root : slice_index_or places 0 0 ≡ 0
  pub filled : 0 < length nodes
  pub child : (i : ℕ) → i < depth → (slice_index_or places (i + 1) 0 < length nodes)
      × (key (slice_index_or places (i + 1) 0) ≡ (node_at nodes (slice_index_or places (i + 1) 0)).label ∷ key (slice_index_or places i 0))

-- the way leads to a node at this depth, and its number is that of the first leaf at or below it
pub record IsWay (degree depth : ℕ) (nodes : List Node) (way : Way) : Type 0 where
  pub key : ℕ → List ℕ
  pub tree : IsTree degree nodes (held_configs nodes) key
  pub path : IsPath nodes key way.places depth
  pub seven : length way.places ≡ 7
  pub first : way.number ≡ start_of nodes key (slice_index_or way.places depth 0)

-- behind the node at this depth on the way the next leaf comes
pub record IsEnd (degree depth : ℕ) (nodes : List Node) (way : Way) : Type 0 where
  pub key : ℕ → List ℕ
  pub tree : IsTree degree nodes (held_configs nodes) key
  pub path : IsPath nodes key way.places depth
  pub seven : length way.places ≡ 7
  pub last : way.number + 1 ≡ start_of nodes key (slice_index_or way.places depth 0) + count_at nodes key (slice_index_or way.places depth 0)
