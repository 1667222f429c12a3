-- What diagrams, merging and trimming mean.
use Rattle.std.specs.Prelude.{◌≡◌, ℕ, ◌<◌, ◌↔◌, List, [], length, Contains, slice_index_or}
use Rattle.re_labels.specs.Configs.{image_at}
use Rattle.re_labels.specs.Sets.{IsIn}
use Rattle.re_problem.specs.NamedProblems.{IsNamedProblem, NamedProblem, unnamed}
use Rattle.re_problem.specs.Strength.{Covers}
use Rattle.re_labels.specs.Constraints.{Constraint, IsConstraint}
use Rattle.re_labels.specs.Strength.{IsAtLeastAsStrong}
use Rattle.re_laws.specs.Algorithms.{Solvable}
use Rattle.re_changes.specs.Diagrams.{classes_of, edges_of}
use Rattle.re_changes.specs.Merging.{merge_map, merged_of}
use Rattle.re_changes.specs.Trimming.{trimmed_of}

-- b is stronger than a
abbrev pub IsStronger : Constraint → ℕ → ℕ → Type 0
IsStronger constraint b a = IsAtLeastAsStrong constraint b a × (IsAtLeastAsStrong constraint a b → ⊥)

-- two labels are in one class exactly where each is at least as strong as the other
abbrev pub ClassLaw : Type 0
ClassLaw = (constraint : Constraint) (n a b : ℕ) → IsConstraint n constraint → a < n → b < n →
    ((class : List ℕ) × Contains (classes_of constraint n) class × IsIn a class × IsIn b class) ↔ (IsAtLeastAsStrong constraint a b × IsAtLeastAsStrong constraint b a)

-- an edge leads from the class of a label to that of another one exactly where this one is stronger, and no label is strictly between them
abbrev pub EdgeLaw : Type 0
EdgeLaw = (constraint : Constraint) (n x y a b : ℕ) → IsConstraint n constraint → x < length (classes_of constraint n) → y < length (classes_of constraint n) →
    IsIn a (slice_index_or (classes_of constraint n) x []) → IsIn b (slice_index_or (classes_of constraint n) y []) →
    Contains (edges_of constraint n) (x, y) ↔ (IsStronger constraint b a × ((c : ℕ) → c < n → IsStronger constraint c a → IsStronger constraint b c → ⊥))

-- two labels are merged exactly where they are equally strong: where each covers the other
abbrev pub MergedLaw : Type 0
MergedLaw = (named : NamedProblem) (a b : ℕ) → IsNamedProblem named → a < length named.names → b < length named.names →
    (image_at (merge_map named) a ≡ image_at (merge_map named) b) ↔ (Covers (unnamed named) a b × Covers (unnamed named) b a)

-- no label of a trimmed problem covers another one
abbrev pub TrimmedLaw : Type 0
TrimmedLaw = (named : NamedProblem) (a b : ℕ) → a < length (trimmed_of named).names → b < length (trimmed_of named).names →
    Covers (unnamed (trimmed_of named)) b a → b ≡ a

-- merging equal labels changes no solvability
abbrev pub MergeRoundsLaw : Type 0
MergeRoundsLaw = (named : NamedProblem) (T : ℕ) → IsNamedProblem named → Solvable (unnamed (merged_of named)) T ↔ Solvable (unnamed named) T

-- leaving out covered labels changes no solvability
abbrev pub TrimRoundsLaw : Type 0
TrimRoundsLaw = (named : NamedProblem) (T : ℕ) → IsNamedProblem named → Solvable (unnamed (trimmed_of named)) T ↔ Solvable (unnamed named) T
