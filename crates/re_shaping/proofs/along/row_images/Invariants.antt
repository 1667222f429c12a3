use Rattle.std.proofs.Common.{◌≡◌, map, take}
use Rattle.re_shaping.specs.Along.{label_left}
use Rattle.re_shaping.proofs.along.row_images.Given as goal

abbrev pub invariant-loop-row : goal.invariant-loop-row
invariant-loop-row l = l.all.items ≡ map (map (label_left l.sets l.images)) (take l.row-index l.rows)
