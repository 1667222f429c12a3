use Rattle.std.proofs.Common.{◌≡◌, map, take}
use Rattle.re_labels.specs.Configs.{image_at}
use Rattle.re_shaping.proofs.sending.sent_image.Given as goal

abbrev pub invariant-loop-label : goal.invariant-loop-label
invariant-loop-label l = l.sent.items ≡ map (image_at l.images) (take l.label-index l.label-items)
