-- Sets to which labels are added.
use Rattle.std.specs.Prelude.{ℕ, List}
use Rattle.re_labels.specs.Sets.{IsIn}
use Rattle.re_labels.specs.Rows.{IsUnder, set_at}
use Rattle.re_boxes.specs.Grown.{added}
use Rattle.re_labels.specs.Constraints.{Constraint}
use Rattle.re_labels.specs.GoodRows.{IsGood}
use Rattle.re_boxes.specs.Sets.{AreSets}

-- good sets of labels below n, in which the sets lie place by place
pub record IsGrownFrom (constraint : Constraint) (n : ℕ) (sets grown : List (List ℕ)) : Type 0 where
  pub good : IsGood constraint grown
  pub are_sets : AreSets n grown
  pub under : IsUnder sets grown

-- the label is in the set at the place, or could not be added there
abbrev pub IsTried : Constraint → List (List ℕ) → ℕ → ℕ → Type 0
IsTried constraint sets i x = IsGood constraint (added i x sets) → IsIn x (set_at sets i)
