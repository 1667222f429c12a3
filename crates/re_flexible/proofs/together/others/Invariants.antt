use Rattle.std.proofs.Common.{◌≡◌, ◌<◌, ℕ, get_or}
use Rattle.std.specs.Prelude.{◌↔◌}
use Rattle.re_labels.specs.Sets.{IsIn}
use Rattle.re_flexible.proofs.together.others.Given as goal

abbrev pub invariant-loop-other : goal.invariant-loop-other
invariant-loop-other l = (y : ℕ) → IsIn y l.set ↔ ((j : ℕ) × (j < l.other) × (l.place ≡ j → ⊥) × (get_or l.labels j 0 ≡ y))
