-- The labels at least as strong as a label.
use Rattle.std.specs.Prelude.{◌≡◌, ℕ, ◌<◌, ◌⊎◌, ◌↔◌, List}
use Rattle.re_labels.specs.Sets.{IsIn}
use Rattle.re_labels.specs.Constraints.{Constraint}
use Rattle.re_labels.specs.Strength.{IsAtLeastAsStrong}
use Rattle.re_boxes.specs.Boxes.{IsStrength}

-- y is x, or they are labels below n and y is at least as strong as x
abbrev pub IsAbove : Constraint → ℕ → ℕ → ℕ → Type 0
IsAbove constraint n y x = (y ≡ x) ⊎ ((x < n) × (y < n) × IsAtLeastAsStrong constraint y x)

-- ups x has x and the labels at least as strong as x, and no others
abbrev pub HasStronger : Constraint → ℕ → (ℕ → List ℕ) → Type 0
HasStronger constraint n ups = (x y : ℕ) → IsIn y (ups x) ↔ IsAbove constraint n y x

-- a label with the labels at least as strong goes up with configurations: such ups are a strength
abbrev pub StrengthLaw : Type 0
StrengthLaw = (constraint : Constraint) (n : ℕ) (ups : ℕ → List ℕ) → HasStronger constraint n ups → IsStrength constraint ups
