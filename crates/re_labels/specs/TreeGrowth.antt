-- How a prefix tree grows by one configuration.
use Rattle.std.specs.Prelude.{◌≡◌, ℕ, zero, suc, ◌+◌, ◌-◌, ◌==◌, ◌<◌, ◌≤◌, List, [], ◌∷◌, ◌++◌, length, slice_index_or, slice_set, if◌then◌else◌}
use Rattle.re_labels.specs.declared.prefix_tree.Kind.{Kind}
use Rattle.re_labels.specs.declared.prefix_tree.Kind.TheVariants.{Inner, Leaf}
use Rattle.re_labels.specs.declared.prefix_tree.Node.{Node}
use Rattle.re_labels.specs.PrefixTrees.{IsLink, IsTable, IsTree, begins, held_configs, node_at, prefix}

-- where a configuration's way leaves the tree: no child of the node at `parent`, which has its first `depth` labels, has the next one;
-- `before` is the last child with a lower label, or 0, and `after` the first one with a higher label, or 0
pub record IsGap (nodes : List Node) (key : ℕ → List ℕ) (config : List ℕ) (depth parent before after : ℕ) : Type 0 where
  pub within : parent < length nodes
  pub on_way : key parent ≡ prefix config depth
  pub missing : (q : ℕ) → q < length nodes → key q ≡ slice_index_or config depth 0 ∷ prefix config depth → ⊥
  pub first : before ≡ 0 → (q label : ℕ) → q < length nodes → key q ≡ label ∷ prefix config depth → slice_index_or config depth 0 < label
  pub behind : 0 < before → (before < length nodes) × ((node_at nodes before).label < slice_index_or config depth 0) × (key before ≡ (node_at nodes before).label ∷ prefix config depth)
  pub last : 0 < before → (q label : ℕ) → q < length nodes → key q ≡ label ∷ prefix config depth → label < slice_index_or config depth 0 → label ≤ (node_at nodes before).label
  pub rest : IsLink nodes key (prefix config depth) (slice_index_or config depth 0 + 1) after

-- the new node at place q with the label number j of the configuration
pub record IsNewNode (config : List ℕ) (degree depth parent after q j : ℕ) (node : Node) : Type 0 where
  pub label : node.label ≡ slice_index_or config j 0
  pub top : j ≡ depth → node.next ≡ after
  pub alone : depth < j → node.next ≡ 0
  pub up_top : j ≡ depth → node.parent ≡ parent
  pub up : depth < j → node.parent + 1 ≡ q
  pub inner : suc j < degree → node.kind ≡ Inner (q + 1) 1
  pub leaf : suc j ≡ degree → node.kind ≡ Leaf config

-- the nodes with a new way from the gap down to a leaf with the configuration, counted at each node above it
pub record IsGrown (nodes new : List Node) (key : ℕ → List ℕ) (config : List ℕ) (degree depth parent before after : ℕ) : Type 0 where
  pub longer : length new + depth ≡ length nodes + degree
  pub label : (q : ℕ) → q < length nodes → (node_at new q).label ≡ (node_at nodes q).label
  pub linked : 0 < before → (node_at new before).next ≡ length nodes
  pub next : (q : ℕ) → q < length nodes → (0 < before → q ≡ before → ⊥) → (node_at new q).next ≡ (node_at nodes q).next
  pub up : (q : ℕ) → q < length nodes → (node_at new q).parent ≡ (node_at nodes q).parent
  pub inner : (q first leaves : ℕ) → q < length nodes → (node_at nodes q).kind ≡ Inner first leaves →
      (other : ℕ) × ((node_at new q).kind ≡ Inner other (leaves + (if begins (key q) config then 1 else 0)))
      × (before ≡ 0 → q ≡ parent → other ≡ length nodes) × ((before ≡ 0 → q ≡ parent → ⊥) → other ≡ first)
  pub leaf : (q : ℕ) (held : List ℕ) → q < length nodes → (node_at nodes q).kind ≡ Leaf held → (node_at new q).kind ≡ Leaf held
  pub new_node : (q j : ℕ) → depth ≤ j → j < degree → q + depth ≡ length nodes + j → IsNewNode config degree depth parent after q j (node_at new q)

-- so many places: this one, that of its parent, and so on
abbrev pub places_up : List Node → ℕ → ℕ → List ℕ
places_up nodes at zero = []
places_up nodes at (suc count) = at ∷ places_up nodes (node_at nodes at).parent count

-- the gap of a configuration, whichever keys are given
pub record IsFound (nodes : List Node) (config : List ℕ) (depth parent before after : ℕ) : Type 0 where
  pub inside : depth < length config
  pub parent_within : parent < length nodes
  pub before_within : before < length nodes
  pub after_within : after < length nodes
  pub gap : (key : ℕ → List ℕ) → IsTree (length config) nodes (held_configs nodes) key → IsGap nodes key config depth parent before after

-- the place is that of a leaf with this configuration, behind which no sibling comes
pub record IsLastLeaf (nodes : List Node) (config : List ℕ) (place : ℕ) : Type 0 where
  pub within : place < length nodes
  pub kind : (node_at nodes place).kind ≡ Leaf config
  pub label : (node_at nodes place).label ≡ slice_index_or config (length config - 1) 0
  pub alone : (node_at nodes place).next ≡ 0

-- the place is that of a leaf with these labels and one more, which is lower than this one, behind which no sibling comes
pub record IsChildBefore (nodes : List Node) (labels : List ℕ) (place next : ℕ) : Type 0 where
  pub within : place < length nodes
  pub kind : (last : ℕ) × ((node_at nodes place).kind ≡ Leaf (labels ++ last ∷ []))
  pub low : (node_at nodes place).label < next
  pub alone : (node_at nodes place).next ≡ 0

-- ---- what the growth writes
-- the new inner node number k, where the nodes lie from `start` on: the topmost is a sibling before `after`, and a child of `parent`
abbrev pub new_inner : List ℕ → ℕ → ℕ → ℕ → ℕ → ℕ → Node
new_inner config depth parent after start k =
    record { label = slice_index_or config (depth + k) 0; next = if k == 0 then after else 0; parent = if k == 0 then parent else start + k - 1; kind = Inner (start + k + 1) 1 }

-- the new leaf behind k inner nodes
abbrev pub new_leaf : List ℕ → ℕ → ℕ → ℕ → ℕ → ℕ → Node
new_leaf config depth parent after start k =
    record { label = slice_index_or config (depth + k) 0; next = if k == 0 then after else 0; parent = if k == 0 then parent else start + k - 1; kind = Leaf config }

-- the first k new inner nodes
abbrev pub new_inners : List ℕ → ℕ → ℕ → ℕ → ℕ → ℕ → List Node
new_inners config depth parent after start zero = []
new_inners config depth parent after start (suc k) = new_inners config depth parent after start k ++ new_inner config depth parent after start k ∷ []

-- all new nodes
abbrev pub way_nodes : List ℕ → ℕ → ℕ → ℕ → ℕ → List Node
way_nodes config depth parent after start =
    new_inners config depth parent after start (length config - depth - 1) ++ new_leaf config depth parent after start (length config - depth - 1) ∷ []

-- an inner node with another first child
abbrev pub with_first : Kind → ℕ → Kind
with_first (Inner first leaves) other = Inner other leaves
with_first (Leaf config) other = Leaf config

-- an inner node with so many leaves more
abbrev pub with_leaves : Kind → ℕ → Kind
with_leaves (Inner first leaves) more = Inner first (leaves + more)
with_leaves (Leaf config) more = Leaf config

-- the nodes where the child at `start` comes behind its sibling `before`, or is the first one of its parent
abbrev pub linked : List Node → ℕ → ℕ → ℕ → List Node
linked nodes parent before start =
    if before == 0 then slice_set nodes parent (record (node_at nodes parent) { kind = with_first (node_at nodes parent).kind start })
    else slice_set nodes before (record (node_at nodes before) { next = start })

-- the nodes are those of a table with the new nodes of a configuration from `start` on, which nothing leads to yet
pub record IsLonger (most : ℕ) (old nodes : List Node) (config : List ℕ) (depth parent before after start : ℕ) : Type 0 where
  pub table : IsTable (length config) most old
  pub found : IsFound old config depth parent before after
  pub few : length (held_configs old) < most
  pub behind : start ≡ length old
  pub way : nodes ≡ old ++ way_nodes config depth parent after (length old)
