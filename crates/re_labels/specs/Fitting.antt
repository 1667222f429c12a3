-- Configurations whose labels are drawn from sets.
use Rattle.std.specs.Prelude.{◌≡◌, ℕ, ◌+◌, ◌<◌, ◌≤◌, true, List, length, drop, slice_index_or, Contains}
use Rattle.re_labels.specs.Rearranging.{Rearranged}
use Rattle.re_labels.specs.Rows.{IsChoice}
use Rattle.re_labels.specs.declared.prefix_tree.Node.{Node}
use Rattle.re_labels.specs.PrefixTrees.{IsLink, IsTree, begins, held_configs}

-- one label is drawn from each of the sets, in some order
abbrev pub Draws : List ℕ → List (List ℕ) → Type 0
Draws labels sets = (moved : List (List ℕ)) × Rearranged sets moved × IsChoice labels moved

-- some configuration begins with these labels, the last of them first, and draws its other labels from the sets
abbrev pub Completes : List (List ℕ) → List ℕ → List (List ℕ) → Type 0
Completes configs above sets = (config : List ℕ) × Contains configs config × (begins above config ≡ true) × Draws (drop (length above) config) sets

-- the same, where the next label is at least this one
abbrev pub CompletesFrom : List (List ℕ) → List ℕ → ℕ → List (List ℕ) → Type 0
CompletesFrom configs above least sets =
    (config : List ℕ) × Contains configs config × (begins above config ≡ true) × (least ≤ slice_index_or config (length above) 0) × Draws (drop (length above) config) sets

-- the place is a child, or 0 behind the last one, of a node of a prefix tree that has as many levels below it as there are sets
abbrev pub IsOpen : List Node → ℕ → List (List ℕ) → Type 0
IsOpen nodes at sets = (degree : ℕ) × (key : ℕ → List ℕ) × (above : List ℕ) × (least : ℕ) × IsTree degree nodes (held_configs nodes) key × (length above + length sets ≡ degree) × (0 < length sets) × IsLink nodes key above least at
