use Rattle.std.proofs.Common.{ℕ, ◌<◌}
use Rattle.re_labels.specs.Sets.{IsIn}
use Rattle.re_boxes.specs.HeldStrength.{ups_in}
use Rattle.re_describe.proofs.meanings.is_above.Given as goal

abbrev pub invariant-loop-other : goal.invariant-loop-other
invariant-loop-other l = (x : ℕ) → x < l.other → IsIn x l.set → IsIn l.label (ups_in l.strength.ups.items x) → ⊥
