use Rattle.std.proofs.Common.{◌≡◌, not}
use Rattle.re_labels.specs.Sets.{has}
use Rattle.re_boxes.specs.HeldStrength.{ups_in}
use Rattle.re_boxes.proofs.UpSets.{IsTable}
use Rattle.re_boxes.proofs.strength.Strength.of.Given as goal

abbrev pub invariant-loop-label : goal.invariant-loop-label
invariant-loop-label l = IsTable (λ x z. not (has (ups_in l.ups.items z) x)) l.labels l.label l.apart.items

abbrev pub invariant-loop-label-2 : goal.invariant-loop-label-2
invariant-loop-label-2 l = IsTable (λ x z. not (has (ups_in l.ups.items x) z)) l.labels l.label l.past.items
