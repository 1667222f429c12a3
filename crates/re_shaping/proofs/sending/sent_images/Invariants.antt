use Rattle.std.proofs.Common.{◌≡◌, map, take}
use Rattle.re_labels.specs.Configs.{image_at}
use Rattle.re_shaping.proofs.sending.sent_images.Given as goal

abbrev pub invariant-loop-row : goal.invariant-loop-row
invariant-loop-row l = l.sent.items ≡ map (map (image_at l.images)) (take l.row-index l.rows)
