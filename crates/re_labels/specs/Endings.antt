-- The children of a node of a prefix tree from one on, and how the configurations go on there.
use Rattle.std.specs.Prelude.{◌≡◌, ℕ, ◌+◌, ◌<◌, ◌≤◌, List, ◌∷◌, length, drop, slice_index_or, Contains}
use Rattle.re_labels.specs.declared.branches.Branches.{Branches}
use Rattle.re_labels.specs.declared.prefix_tree.Node.{Node}
use Rattle.re_labels.specs.PrefixTrees.{IsPrefixTree, IsTree, held_configs, node_at, prefix}

-- the place, where there is one, is that of a node
abbrev pub IsPlace : List Node → Branches → Type 0
IsPlace nodes branches = 0 < branches.place → branches.place < length nodes

-- above the branches are so many labels, whichever keys are given
pub record IsBranches (degree : ℕ) (nodes : List Node) (depth : ℕ) (branches : Branches) : Type 0 where
  pub tree : IsPrefixTree degree nodes
  pub within : IsPlace nodes branches
  pub deep : 0 < branches.place → depth < degree → (key : ℕ → List ℕ) → IsTree degree nodes (held_configs nodes) key → length (key branches.place) ≡ depth + 1

-- some configuration with the labels above goes on so, at the first branch or a later one; behind all its labels, at its leaf, nothing is left
pub record IsEnding (degree : ℕ) (nodes : List Node) (depth : ℕ) (branches : Branches) (ending : List ℕ) : Type 0 where
  pub some : 0 < branches.place
  pub key : ℕ → List ℕ
  pub tree : IsTree degree nodes (held_configs nodes) key
  pub config : List ℕ
  pub held : Contains (held_configs nodes) config
  pub rest : drop depth config ≡ ending
  pub inner : depth < degree → (key branches.place ≡ (node_at nodes branches.place).label ∷ prefix config depth) × ((node_at nodes branches.place).label ≤ slice_index_or config depth 0)
  pub leaf : depth ≡ degree → key branches.place ≡ prefix config degree

-- the least label that comes next
pub record IsFirst (degree : ℕ) (nodes : List Node) (depth : ℕ) (branches : Branches) (label : ℕ) : Type 0 where
  pub some : (ending : List ℕ) × IsEnding degree nodes depth branches (label ∷ ending)
  pub least : (other : ℕ) (ending : List ℕ) → IsEnding degree nodes depth branches (other ∷ ending) → label ≤ other
