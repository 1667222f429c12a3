use Rattle.std.proofs.Common.{◌≡◌, ◌<◌, ℕ, get_or}
use Rattle.re_labels.specs.Rows.{set_at}
use Rattle.re_labels.specs.Sets.{IsIn}
use Rattle.re_boxes.proofs.choosing.only_place.Given as goal

abbrev pub invariant-loop-place : goal.invariant-loop-place
invariant-loop-place l = (i : ℕ) → i < l.place → (i ≡ l.only → ⊥) → IsIn (get_or l.choice i 0) (set_at l.must i)
