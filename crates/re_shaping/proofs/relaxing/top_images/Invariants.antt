use Rattle.std.proofs.Common.{◌≡◌, map, take}
use Rattle.re_algo.specs.Constructions.{top_places}
use Rattle.re_labels.specs.Configs.{image_at}
use Rattle.re_shaping.specs.Relaxing.{row_image}
use Rattle.re_shaping.proofs.relaxing.top_images.Given as goal

abbrev pub invariant-loop-row : goal.invariant-loop-row
invariant-loop-row l = l.tops.items ≡ map (λ row. top_places l.derived.rows l.derived.sets (row_image (image_at l.images) row)) (take l.row-index l.rows)
