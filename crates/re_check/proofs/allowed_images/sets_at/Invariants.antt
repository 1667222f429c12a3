use Rattle.std.proofs.Common.{◌≡◌, map, take}
use Rattle.re_labels.specs.Rows.{set_at}
use Rattle.re_check.proofs.allowed_images.sets_at.Given as goal

abbrev pub invariant-loop-label : goal.invariant-loop-label
invariant-loop-label l = l.there.items ≡ map (set_at l.sets) (take l.label-index l.label-items)
