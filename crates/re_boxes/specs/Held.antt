-- Choices whose labels are held but for one.
use Rattle.std.specs.Prelude.{◌≡◌, ◌<◌, ℕ, List, length, slice_index_or}
use Rattle.re_labels.specs.Rows.{set_at}
use Rattle.re_labels.specs.Sets.{IsIn}

-- each label of the choice is in the set at its place, but for the one at this place
abbrev pub AreHeldBeside : ℕ → List ℕ → List (List ℕ) → Type 0
AreHeldBeside place choice sets = (i : ℕ) → i < length sets → (i ≡ place → ⊥) → IsIn (slice_index_or choice i 0) (set_at sets i)
