-- Relations between labels: tables that have for each label the set of those that it leads to.
use Rattle.std.specs.Prelude.{◌≡◌, ℕ, zero, suc, ◌<◌, List, [], length, slice_index_or}
use Rattle.re_labels.specs.Sets.{IsIn}
use Rattle.re_labels.specs.declared.TheConstants.{MAX_LABELS}

-- x leads to y
abbrev pub Relates : List (List ℕ) → ℕ → ℕ → Type 0
Relates table x y = IsIn y (slice_index_or table x [])

-- so many steps lead from x to y
abbrev pub Steps : List (List ℕ) → ℕ → ℕ → ℕ → Type 0
Steps table zero x y = x ≡ y
Steps table (suc m) x y = (z : ℕ) × Relates table x z × Steps table m z y

-- some steps do, or x is y
abbrev pub Reaches : List (List ℕ) → ℕ → ℕ → Type 0
Reaches table x y = (m : ℕ) × Steps table m x y

-- a step of the first relation and one of the second lead from x to y
abbrev pub Composes : List (List ℕ) → List (List ℕ) → ℕ → ℕ → Type 0
Composes first second x y = (z : ℕ) × Relates first x z × Relates second z y

-- so many steps lead from x to itself, and one more do
abbrev pub Rounds : List (List ℕ) → ℕ → Type 0
Rounds table x = (m : ℕ) × Steps table m x x × Steps table (suc m) x x

-- the first relation leads nowhere but where the second one does
abbrev pub IsWithin : List (List ℕ) → List (List ℕ) → Type 0
IsWithin first second = (x y : ℕ) → Relates first x y → Relates second x y

-- the first relation leads from a label to one to which the second one doesn't lead
abbrev pub HasNew : List (List ℕ) → List (List ℕ) → Type 0
HasNew first second = (x : ℕ) × (y : ℕ) × (x < MAX_LABELS) × (y < MAX_LABELS) × Relates first x y × (Relates second x y → ⊥)

-- x and y stand at two places of the configuration
abbrev pub Stands : List ℕ → ℕ → ℕ → Type 0
Stands config x y = (i : ℕ) × (j : ℕ) × (i < length config) × (j < length config) × (i ≡ j → ⊥) × (slice_index_or config i 0 ≡ x) × (slice_index_or config j 0 ≡ y)
