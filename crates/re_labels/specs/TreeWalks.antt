-- Walks along the children of a node.
use Rattle.std.specs.Prelude.{◌≡◌, ℕ, ◌+◌, ◌<◌, ◌≤◌, Bool, false, ◌&&◌, ◌||◌, nat_lt, List, [], ◌∷◌, length, slice_index_or}
use Rattle.re_labels.specs.declared.prefix_tree.Node.{Node}
use Rattle.re_labels.specs.PrefixTrees.{IsLink, begins, node_at}

-- no child of the node with the labels above has this label; `before` is the last child with a lower one, or 0, and `after` the first one with a higher one, or 0
pub record IsMissing (nodes : List Node) (key : ℕ → List ℕ) (above : List ℕ) (wanted before after : ℕ) : Type 0 where
  pub missing : (q : ℕ) → q < length nodes → key q ≡ wanted ∷ above → ⊥
  pub first : before ≡ 0 → (q label : ℕ) → q < length nodes → key q ≡ label ∷ above → wanted < label
  pub behind : 0 < before → (before < length nodes) × ((node_at nodes before).label < wanted) × (key before ≡ (node_at nodes before).label ∷ above)
  pub last : 0 < before → (q label : ℕ) → q < length nodes → key q ≡ label ∷ above → label < wanted → label ≤ (node_at nodes before).label
  pub rest : IsLink nodes key above (wanted + 1) after

-- the children up to `before` have lower labels, and `at` is the next one, or 0
pub record IsWalked (nodes : List Node) (key : ℕ → List ℕ) (above : List ℕ) (wanted before at : ℕ) : Type 0 where
  pub first : before ≡ 0 → IsLink nodes key above 0 at
  pub behind : 0 < before → (before < length nodes) × ((node_at nodes before).label < wanted) × (key before ≡ (node_at nodes before).label ∷ above)
  pub link : 0 < before → IsLink nodes key above ((node_at nodes before).label + 1) at

-- whether the configuration comes before all those that begin with these labels, the last of them first
abbrev pub precedes : List ℕ → List ℕ → Bool
precedes [] config = false
precedes (label ∷ above) config = precedes above config || (begins above config && nat_lt (slice_index_or config (length above) 0) label)
