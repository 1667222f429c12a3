use Rattle.std.proofs.Common.{◌≡◌, map, take}
use Rattle.re_shaping.specs.Along.{image_left}
use Rattle.re_shaping.proofs.routing.images_sent.Given as goal

abbrev pub invariant-loop-row : goal.invariant-loop-row
invariant-loop-row l = l.sent.items ≡ map (map (image_left l.images)) (take l.row-index l.rows)
