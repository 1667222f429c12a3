-- Rests of two labels with the labels that complete them.
use Rattle.std.specs.Prelude.{ℕ, ◌<◌, ◌↔◌, ◌∷◌, [], List, Contains, Option, Some}
use Rattle.re_labels.specs.Sets.{IsIn}
use Rattle.re_labels.specs.Constraints.{Constraint, Has}
use Rattle.re_step.specs.declared.completing.Completed.{Completed}

-- of the labels below n the set has those that complete the two labels
abbrev pub IsRight : Constraint → ℕ → Completed → Type 0
IsRight constraint n held = (x : ℕ) → x < n → IsIn x held.labels ↔ Has constraint (x ∷ held.first ∷ held.second ∷ [])

-- all sets that are held are so
abbrev pub AreRight : Constraint → ℕ → List (Option Completed) → Type 0
AreRight constraint n slots = (held : Completed) → Contains slots (Some held) → IsRight constraint n held
