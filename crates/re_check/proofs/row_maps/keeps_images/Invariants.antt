use Rattle.std.proofs.Common.{ℕ, ◌<◌, [], get_or}
use Rattle.re_labels.specs.Constraints.{Has}
use Rattle.re_check.proofs.row_maps.keeps_images.Given as goal

abbrev pub invariant-loop-image : goal.invariant-loop-image
invariant-loop-image l = (k : ℕ) → k < l.image-index → Has l.to (get_or l.images k [])
