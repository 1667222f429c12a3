-- Rows to which no label can be added.
use Rattle.std.specs.Prelude.{◌≡◌, ℕ, ◌<◌, ◌↔◌, List, length, slice_set, Contains}
use Rattle.std.specs.List.{AllByRecursion}
use Rattle.re_labels.specs.Sets.{IsIn, IsLabelSet, with_label}
use Rattle.re_labels.specs.Rows.{IsRow, set_at}
use Rattle.re_labels.specs.Constraints.{Constraint}
use Rattle.re_labels.specs.GoodRows.{IsDominated, IsGood, max_rows}

-- the sets with the label x too at place i
abbrev pub added : ℕ → ℕ → List (List ℕ) → List (List ℕ)
added i x row = slice_set row i (with_label (set_at row i) x)

-- a label below n that can be added at some place so that the row is good is there already
abbrev pub IsGrown : Constraint → ℕ → List (List ℕ) → Type 0
IsGrown constraint n row = (i x : ℕ) → i < length row → x < n → IsGood constraint (added i x row) → IsIn x (set_at row i)

-- the maximal rows are the good rows to which no label can be added
abbrev pub GrownLaw : Type 0
GrownLaw = (constraint : Constraint) (n : ℕ) (row : List (List ℕ)) →
    Contains (max_rows constraint n) row ↔ (IsRow constraint.degree n row × IsGood constraint row × IsGrown constraint n row)

-- a list none of whose rows dominates some good row is not the list of the maximal rows
abbrev pub LacksLaw : Type 0
LacksLaw = (constraint : Constraint) (n : ℕ) (rows : List (List (List ℕ))) (row : List (List ℕ)) → IsGood constraint row → AllByRecursion (IsLabelSet n) row
    → (IsDominated rows row → ⊥) → rows ≡ max_rows constraint n → ⊥
