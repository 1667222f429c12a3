-- Lists of rows that are closed under combinations, and what they say of the maximal rows.
use Rattle.std.specs.Prelude.{◌≡◌, ℕ, ◌<◌, true, ◌↔◌, List, Contains}
use Rattle.std.specs.List.{AllByRecursion}
use Rattle.std.specs.declared.cmp.Ordering.TheVariants.{Less}
use Rattle.re_labels.specs.Lists.{IsRising}
use Rattle.re_labels.specs.Sets.{IsLabelSet}
use Rattle.re_labels.specs.Orders.{placements}
use Rattle.re_labels.specs.Rows.{Dominates, IsRow, combined, is_full, placed, row_cmp, singles}
use Rattle.re_labels.specs.Constraints.{Constraint, IsConstraint}
use Rattle.re_labels.specs.GoodRows.{IsDominated, IsGood, max_rows}

-- good rows in order, none of which dominates another, that dominate each configuration and each combination without an empty set
pub record IsClosed (constraint : Constraint) (n : ℕ) (rows : List (List (List ℕ))) : Type 0 where
  pub good : (row : List (List ℕ)) → Contains rows row → IsRow constraint.degree n row × IsGood constraint row
  pub ascends : IsRising (λ row other. row_cmp row other ≡ Less) rows
  pub apart : (row other : List (List ℕ)) → Contains rows row → Contains rows other → Dominates row other → row ≡ other
  pub configs : (config : List ℕ) → Contains constraint.configs config → IsDominated rows (singles config)
  pub combinations : (row other : List (List ℕ)) (order : List ℕ) (i : ℕ) → Contains rows row → Contains rows other
      → Contains (placements constraint.degree) order → i < constraint.degree → is_full (combined i row (placed other order)) ≡ true
      → IsDominated rows (combined i row (placed other order))

-- a list of rows is that of the maximal rows exactly where it is closed
abbrev pub ClosureLaw : Type 0
ClosureLaw = (constraint : Constraint) (n : ℕ) (rows : List (List (List ℕ))) → IsConstraint n constraint →
    IsClosed constraint n rows ↔ (rows ≡ max_rows constraint n)

-- some maximal row dominates each good row
abbrev pub DominationLaw : Type 0
DominationLaw = (constraint : Constraint) (n : ℕ) (row : List (List ℕ)) → IsGood constraint row → AllByRecursion (IsLabelSet n) row →
    IsDominated (max_rows constraint n) row
