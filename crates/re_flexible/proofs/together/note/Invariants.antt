use Rattle.std.proofs.Common.{◌≡◌, ◌<◌, ◌⊎◌, ℕ, get_or, length}
use Rattle.std.specs.Prelude.{◌↔◌}
use Rattle.re_flexible.proofs.together.note.Given as goal
use Rattle.re_flexible.specs.Relations.{Relates}

abbrev pub invariant-loop-place : goal.invariant-loop-place
invariant-loop-place l = (x y : ℕ) → Relates l.table x y
    ↔ (Relates l.fn.table x y ⊎ ((i : ℕ) × (j : ℕ) × (i < l.place) × (j < length l.labels) × (i ≡ j → ⊥) × (get_or l.labels i 0 ≡ x) × (get_or l.labels j 0 ≡ y)))
