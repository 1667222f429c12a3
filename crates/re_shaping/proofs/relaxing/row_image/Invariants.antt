use Rattle.std.proofs.Common.{◌≡◌, take}
use Rattle.re_labels.specs.Configs.{image_at}
use Rattle.re_shaping.specs.Relaxing.{row_image}
use Rattle.re_shaping.proofs.relaxing.row_image.Given as goal

abbrev pub invariant-loop-set : goal.invariant-loop-set
invariant-loop-set l = l.image.items ≡ row_image (image_at l.images) (take l.set-index l.set-items)
