use Rattle.std.proofs.Common.{◌≡◌, take}
use Rattle.re_bridge.specs.Reductions.{image_set}
use Rattle.re_bridge.proofs.mapping.image_set.Given as goal

abbrev pub invariant-loop-image : goal.invariant-loop-image
invariant-loop-image l = l.set ≡ image_set (take l.image-index l.images)
