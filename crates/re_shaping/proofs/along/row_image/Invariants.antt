use Rattle.std.proofs.Common.{◌≡◌, length, map, take}
use Rattle.re_shaping.specs.Along.{label_left}
use Rattle.re_shaping.proofs.along.row_image.Given as goal

abbrev pub invariant-loop-set : goal.invariant-loop-set
invariant-loop-set l = record {
  labels : l.labels.items ≡ map (label_left l.sets l.images) (take l.set-index l.set-items);
  count : length l.labels.items ≡ l.set-index;
}
