use Rattle.std.proofs.Common.{◌≡◌, map}
use Rattle.re_labels.specs.Lists.{count_from}
use Rattle.re_bridge.specs.Bridges.{image_of}
use Rattle.re_bridge.proofs.by_row.images_for.Given as goal

abbrev pub invariant-loop-row : goal.invariant-loop-row
invariant-loop-row l = l.images.items ≡ map (image_of l.degree-2 l.labels) (count_from 0 l.row)
