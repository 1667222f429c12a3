-- A prefix tree of the configurations of a constraint, and what a walk down their beginnings meets.
use Rattle.std.specs.Prelude.{◌≡◌, ℕ, ◌<◌, ◌≤◌, ◌↔◌, ◌⊎◌, ◌+◌, max, nat_lt, if◌then◌else◌, List, ◌∷◌, [], ◌++◌, length, slice_index_or, Contains, Option, None, Some}
use Rattle.std.specs.List.{AllByRecursion}
use Rattle.re_labels.specs.Lists.{IsRising}
use Rattle.re_labels.specs.Constraints.{Constraint}
use Rattle.re_labels.specs.Endings
use Rattle.re_labels.specs.declared.branches.Branches.{Branches}
use Rattle.re_labels.specs.declared.prefix_tree.Node.{Node}
use Rattle.re_boxes.specs.Rests.{Completes}
use Rattle.re_boxes.specs.declared.visiting.Candidate.{Candidate}

-- a constraint beside the nodes of a prefix tree
pub record Tree : Type 0 where
  pub degree : ℕ
  pub configs : List (List ℕ)
  pub nodes : List Node

abbrev pub tree_of : Constraint → List Node → Tree
tree_of constraint nodes = record { degree = constraint.degree; configs = constraint.configs; nodes = nodes }

-- the constraint
abbrev pub constraint_of : Tree → Constraint
constraint_of tree = record { degree = tree.degree; configs = tree.configs }

-- the branches lie below so many labels
abbrev pub IsSpan : Tree → ℕ → Branches → Type 0
IsSpan tree depth span = Endings.IsBranches tree.degree tree.nodes depth span

-- some configuration at the branches ends so behind its first labels
abbrev pub IsEnding : Tree → ℕ → Branches → List ℕ → Type 0
IsEnding tree depth span ending = Endings.IsEnding tree.degree tree.nodes depth span ending

-- the least label that follows the first ones at the branches
abbrev pub IsFirst : Tree → ℕ → Branches → ℕ → Type 0
IsFirst tree depth span label = Endings.IsFirst tree.degree tree.nodes depth span label

-- some candidate with this label has this ending
abbrev pub Fits : Tree → ℕ → List Candidate → ℕ → List ℕ → Type 0
Fits constraint depth candidates label ending =
    (candidate : Candidate) × Contains candidates candidate × (candidate.label ≡ label) × IsEnding constraint depth candidate.span ending

-- the least label that comes next behind a beginning and behind the beginning with each candidate
pub record IsNext (constraint : Tree) (depth : ℕ) (main : Branches) (candidates : List Candidate) (label : ℕ) : Type 0 where
  pub some : ((ending : List ℕ) × IsEnding constraint depth main (label ∷ ending)) ⊎ ((x : ℕ) × (ending : List ℕ) × Fits constraint (depth + 1) candidates x (label ∷ ending))
  pub beside : (other : ℕ) (ending : List ℕ) → IsEnding constraint depth main (other ∷ ending) → label ≤ other
  pub among : (x other : ℕ) (ending : List ℕ) → Fits constraint (depth + 1) candidates x (other ∷ ending) → label ≤ other

-- the spans of the candidates have so many labels in common
abbrev pub AreSpans : Tree → ℕ → List Candidate → Type 0
AreSpans constraint depth candidates = (candidate : Candidate) → Contains candidates candidate → IsSpan constraint depth candidate.span

-- no span of a candidate is empty
abbrev pub AreFilled : Tree → ℕ → List Candidate → Type 0
AreFilled constraint depth candidates = (candidate : Candidate) → Contains candidates candidate → (ending : List ℕ) × IsEnding constraint depth candidate.span ending

-- a list in ascending order
abbrev pub Ascends : List ℕ → Type 0
Ascends labels = IsRising (λ x y. x ≤ y) labels

-- the labels of the beginning are below the number, and what may follow it isn't below the last of them
pub record IsBound (beginning : List ℕ) (bound : ℕ) : Type 0 where
  pub above : AllByRecursion (λ x. x < bound) beginning
  pub least : (label : ℕ) (ending : List ℕ) → Ascends (beginning ++ label ∷ ending) → bound ≤ label + 1

-- the span has the configurations that begin so, and the candidates have the labels below the bound that complete a rest with this
-- beginning, each with all endings of such rests
pub record IsVisit (constraint : Tree) (beginning : List ℕ) (bound : ℕ) (main : Branches) (candidates : List Candidate) : Type 0 where
  pub ascends : Ascends beginning
  pub bounded : IsBound beginning bound
  pub few : length candidates ≤ bound
  pub span : IsSpan constraint (length beginning) main
  pub behind : (ending : List ℕ) → IsEnding constraint (length beginning) main ending ↔ Contains constraint.configs (beginning ++ ending)
  pub spans : AreSpans constraint (length beginning + 1) candidates
  pub filled : AreFilled constraint (length beginning + 1) candidates
  pub complete : (label : ℕ) (ending : List ℕ) →
      Fits constraint (length beginning + 1) candidates label ending ↔ ((label < bound) × Ascends (beginning ++ ending) × Completes (constraint_of constraint) (beginning ++ ending) label)

-- the same of the rests that go on with labels from a number on, where a candidate has a label below the bound or one that has been passed
pub record IsWaiting (constraint : Tree) (beginning : List ℕ) (bound least : ℕ) (rest : Branches) (candidates : List Candidate) : Type 0 where
  pub few : length candidates ≤ max bound least
  pub span : IsSpan constraint (length beginning) rest
  pub behind : (label : ℕ) (ending : List ℕ) → IsEnding constraint (length beginning) rest (label ∷ ending) ↔ ((least ≤ label) × Contains constraint.configs (beginning ++ label ∷ ending))
  pub spans : AreSpans constraint (length beginning + 1) candidates
  pub complete : (x label : ℕ) (ending : List ℕ) → Fits constraint (length beginning + 1) candidates x (label ∷ ending)
      ↔ ((least ≤ label) × (x < max bound least) × Ascends (beginning ++ label ∷ ending) × Completes (constraint_of constraint) (beginning ++ label ∷ ending) x)

-- the candidates have the labels that complete a rest that goes on with this label or a later one, where they are below the bound or no
-- later than this label
abbrev pub IsOpened : Tree → List ℕ → ℕ → ℕ → List Candidate → Type 0
IsOpened constraint beginning bound next candidates = (x label : ℕ) (ending : List ℕ) → Fits constraint (length beginning + 1) candidates x (label ∷ ending)
    ↔ ((next ≤ label) × (x < max bound (next + 1)) × Ascends (beginning ++ label ∷ ending) × Completes (constraint_of constraint) (beginning ++ label ∷ ending) x)

-- b is among the labels where it was, and completes each rest with this beginning that a completes
abbrev pub IsNarrowed : Constraint → List ℕ → List (List ℕ) → List (List ℕ) → Type 0
IsNarrowed constraint beginning old new = (a b : ℕ) → a < length old →
    Contains (slice_index_or new a []) b
    ↔ (Contains (slice_index_or old a []) b
    × ((ending : List ℕ) → Ascends (beginning ++ ending) → Completes constraint (beginning ++ ending) a → Completes constraint (beginning ++ ending) b))

-- the lesser one of two labels, where there are any
abbrev pub lesser : Option ℕ → Option ℕ → Option ℕ
lesser None other = other
lesser (Some x) None = Some x
lesser (Some x) (Some y) = if nat_lt x y then Some x else Some y
