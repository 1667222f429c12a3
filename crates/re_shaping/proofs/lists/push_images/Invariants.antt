use Rattle.std.proofs.Common.{◌≡◌, ◌++◌, take}
use Rattle.re_shaping.proofs.lists.push_images.Given as goal

abbrev pub invariant-loop-image : goal.invariant-loop-image
invariant-loop-image l = l.images.items ≡ l.fn.images.items ++ take l.image-index l.more
