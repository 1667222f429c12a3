use Rattle.std.proofs.Common.{◌≡◌, take}
use Rattle.re_chains.proofs.copies.copied_images.Given as goal

abbrev pub invariant-loop-image : goal.invariant-loop-image
invariant-loop-image l = l.copied.items ≡ take l.image-index l.images
