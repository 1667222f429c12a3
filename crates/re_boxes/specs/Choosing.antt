-- Choices of one label of each set.
use Rattle.std.specs.Prelude.{◌≡◌, ℕ, List, ◌++◌}
use Rattle.re_labels.specs.Rows.{IsChoice}
use Rattle.re_labels.specs.Constraints.{Constraint, Has}

-- every choice of the sets, behind these labels, is a configuration
abbrev pub AreGoodBehind : Constraint → List ℕ → List (List ℕ) → Type 0
AreGoodBehind constraint drawn sets = (labels : List ℕ) → IsChoice labels sets → Has constraint (drawn ++ labels)

-- the labels found are these labels and a choice of the sets behind them, and no configuration
pub record IsBadBehind (constraint : Constraint) (drawn : List ℕ) (sets : List (List ℕ)) (found : List ℕ) : Type 0 where
  pub labels : List ℕ
  pub behind : found ≡ drawn ++ labels
  pub chosen : IsChoice labels sets
  pub lacked : Has constraint found → ⊥

-- every choice of the sets is a configuration
abbrev pub AreGoodChoices : Constraint → List (List ℕ) → Type 0
AreGoodChoices constraint sets = (labels : List ℕ) → IsChoice labels sets → Has constraint labels
