-- The nodes of a prefix tree, and the configurations that they stand for.
use Rattle.std.specs.Prelude.{◌≡◌, ℕ, zero, suc, ◌+◌, ◌*◌, ◌<◌, ◌≤◌, Bool, List, [], ◌∷◌, ◌++◌, length, slice_index_or, count_by}
use Rattle.re_labels.specs.declared.TheConstants.{MAX_LABELS}
use Rattle.re_labels.specs.Lists.{same_list}
use Rattle.re_labels.specs.ListSets.{list_set}
use Rattle.re_labels.specs.declared.prefix_tree.Kind.{Kind}
use Rattle.re_labels.specs.declared.prefix_tree.Kind.TheVariants.{Inner, Leaf}
use Rattle.re_labels.specs.declared.prefix_tree.Node.{Node}

-- the place of the first child, which a leaf doesn't have
abbrev pub first_of : Kind → ℕ
first_of (Inner first leaves) = first
first_of (Leaf config) = 0

-- how many leaves are at or below the node
abbrev pub leaves_of : Kind → ℕ
leaves_of (Inner first leaves) = leaves
leaves_of (Leaf config) = 1

-- the configurations of a node
abbrev pub configs_of : Kind → List (List ℕ)
configs_of (Inner first leaves) = []
configs_of (Leaf config) = config ∷ []

-- the configurations of the leaves, as they lie
abbrev pub leaf_configs : List Node → List (List ℕ)
leaf_configs [] = []
leaf_configs (node ∷ nodes) = configs_of node.kind ++ leaf_configs nodes

-- the configurations of the leaves, in ascending order
abbrev pub held_configs : List Node → List (List ℕ)
held_configs nodes = list_set (leaf_configs nodes)

-- the root before it has children
abbrev pub bare_root : Node
bare_root = record { label = 0; next = 0; parent = 0; kind = Inner 0 0 }

-- the node at a place
abbrev pub node_at : List Node → ℕ → Node
node_at nodes place = slice_index_or nodes place bare_root

-- the first d labels of a configuration, the last of them first
abbrev pub prefix : List ℕ → ℕ → List ℕ
prefix config zero = []
prefix config (suc d) = slice_index_or config d 0 ∷ prefix config d

-- whether the configuration begins with these labels, the last of them first
abbrev pub begins : List ℕ → List ℕ → Bool
begins key config = same_list key (prefix config (length key))

-- the place of the child with the least label that is at least this one, of the node with the labels above; 0 where there is none
pub record IsLink (nodes : List Node) (key : ℕ → List ℕ) (above : List ℕ) (least target : ℕ) : Type 0 where
  pub within : target < length nodes
  pub child : 0 < target → (least ≤ (node_at nodes target).label) × (key target ≡ (node_at nodes target).label ∷ above)
  pub nearest : (q label : ℕ) → q < length nodes → key q ≡ label ∷ above → least ≤ label → (0 < target) × ((node_at nodes target).label ≤ label)

-- an inner node is above the leaves, names its first child and counts the configurations that begin with its labels; a leaf stands at its configuration
abbrev pub IsBelow : ℕ → List Node → List (List ℕ) → (ℕ → List ℕ) → List ℕ → Kind → Type 0
IsBelow degree nodes configs key labels (Inner first leaves) =
    (length labels < degree) × IsLink nodes key labels 0 first × (leaves ≡ count_by (begins labels) configs)
IsBelow degree nodes configs key labels (Leaf config) = (length config ≡ degree) × (labels ≡ prefix config degree)

-- the nodes are a prefix tree of these configurations, where the key of a place has the labels on the way to it, the last of them first; a configuration lies below each but the root
pub record IsTree (degree : ℕ) (nodes : List Node) (configs : List (List ℕ)) (key : ℕ → List ℕ) : Type 0 where
  pub root : key 0 ≡ []
  pub narrow : (q : ℕ) → q < length nodes → (node_at nodes q).label < MAX_LABELS
  pub apart : (p q : ℕ) → p < length nodes → q < length nodes → key p ≡ key q → p ≡ q
  pub parent : (q : ℕ) → 0 < q → q < length nodes → (p : ℕ) × (p < length nodes) × (key q ≡ (node_at nodes q).label ∷ key p) × ((node_at nodes q).parent ≡ p)
  pub sibling : (q : ℕ) (above : List ℕ) → q < length nodes → key q ≡ (node_at nodes q).label ∷ above → IsLink nodes key above ((node_at nodes q).label + 1) (node_at nodes q).next
  pub below : (q : ℕ) → q < length nodes → IsBelow degree nodes configs key (key q) (node_at nodes q).kind
  pub filled : (q : ℕ) → 0 < q → q < length nodes → 0 < count_by (begins (key q)) configs

-- the nodes are the prefix tree of the configurations of their leaves
abbrev pub IsPrefixTree : ℕ → List Node → Type 0
IsPrefixTree degree nodes = (key : ℕ → List ℕ) × IsTree degree nodes (held_configs nodes) key

-- the place is that of an inner node of such a tree
abbrev pub IsInnerPlace : List Node → ℕ → Type 0
IsInnerPlace nodes place =
    (degree : ℕ) × (key : ℕ → List ℕ) × IsTree degree nodes (held_configs nodes) key × (place < length nodes) × (length (key place) < degree)

-- the nodes are the prefix tree of at most so many configurations, each at one leaf, with at most six nodes for each
pub record IsTable (degree most : ℕ) (nodes : List Node) : Type 0 where
  pub tree : IsPrefixTree degree nodes
  pub once : length (leaf_configs nodes) ≡ length (held_configs nodes)
  pub few : length (held_configs nodes) ≤ most
  pub small : length nodes ≤ 6 * length (held_configs nodes) + 1
