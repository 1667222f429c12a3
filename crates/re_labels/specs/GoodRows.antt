-- Good rows, the maximal ones among them, and the rows that are allowed.
use Rattle.std.specs.Prelude.{◌≡◌, ℕ, ◌==◌, ◌<◌, Bool, not, ◌&&◌, ◌||◌, List, length, filter, Contains}
use Rattle.std.specs.List.{AllByRecursion, list_all, list_any}
use Rattle.std.specs.Ordering.{is_eq}
use Rattle.re_labels.specs.Lists.{same_list}
use Rattle.re_labels.specs.Orders.{multisets}
use Rattle.re_labels.specs.Rows.{Dominates, IsChoice, IsRow, all_rows, all_sets, choices, dominates, is_full, placed, row_cmp}
use Rattle.re_labels.specs.Constraints.{Constraint, Has, has_config}

-- as many sets as the degree, none of them empty, and every choice of one label of each is a configuration
pub record IsGood (constraint : Constraint) (row : List (List ℕ)) : Type 0 where
  pub count : length row ≡ constraint.degree
  pub filled : AllByRecursion (λ s. 0 < length s) row
  pub choice : (labels : List ℕ) → IsChoice labels row → Has constraint labels

-- a good row that no other good row dominates
pub record IsMaximal (constraint : Constraint) (n : ℕ) (row : List (List ℕ)) : Type 0 where
  pub is_row : IsRow constraint.degree n row
  pub good : IsGood constraint row
  pub alone : (other : List (List ℕ)) → IsRow constraint.degree n other → IsGood constraint other → Dominates other row → other ≡ row

-- some choice of one label of each set is a configuration
abbrev pub IsAllowed : Constraint → List (List ℕ) → Type 0
IsAllowed constraint row = (labels : List ℕ) × IsChoice labels row × Has constraint labels

-- some row of the list dominates it
abbrev pub IsDominated : List (List (List ℕ)) → List (List ℕ) → Type 0
IsDominated rows other = (top : List (List ℕ)) × Contains rows top × Dominates top other

-- whether the row is good
abbrev pub is_good : Constraint → List (List ℕ) → Bool
is_good constraint row = length row == constraint.degree && is_full row && list_all (has_config constraint) (choices row)

-- whether the row is good, and no other good row dominates it
abbrev pub is_maximal : Constraint → ℕ → List (List ℕ) → Bool
is_maximal constraint n row =
    is_good constraint row && list_all (λ other. not (is_good constraint other && dominates other row) || is_eq (row_cmp other row)) (all_rows constraint.degree n)

-- whether some choice is a configuration
abbrev pub is_allowed : Constraint → List (List ℕ) → Bool
is_allowed constraint row = list_any (has_config constraint) (choices row)

-- whether some row of the list dominates it
abbrev pub is_dominated : List (List (List ℕ)) → List (List ℕ) → Bool
is_dominated rows other = list_any (λ top. dominates top other) rows

-- the maximal rows of sets of labels below n, in order
abbrev pub max_rows : Constraint → ℕ → List (List (List ℕ))
max_rows constraint n = filter (is_maximal constraint n) (all_rows constraint.degree n)

-- the different sets of the maximal rows, in order
abbrev pub max_sets : Constraint → ℕ → List (List ℕ)
max_sets constraint n = filter (λ set. list_any (list_any (same_list set)) (max_rows constraint n)) (all_sets n)

-- the multisets of d sets of a list, by their places in it, that are allowed, in order
abbrev pub allowed : Constraint → List (List ℕ) → ℕ → List (List ℕ)
allowed constraint sets d = filter (λ places. is_allowed constraint (placed sets places)) (multisets d 0 (length sets))
