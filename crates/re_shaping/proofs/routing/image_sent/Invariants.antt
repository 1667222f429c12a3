use Rattle.std.proofs.Common.{◌≡◌, map, take}
use Rattle.re_shaping.specs.Along.{image_left}
use Rattle.re_shaping.proofs.routing.image_sent.Given as goal

abbrev pub invariant-loop-label : goal.invariant-loop-label
invariant-loop-label l = l.labels.items ≡ map (image_left l.images) (take l.label-index l.label-items)
