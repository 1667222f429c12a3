use Rattle.std.proofs.Common.{◌≡◌, length, map, take}
use Rattle.re_labels.specs.Configs.{image_at}
use Rattle.re_labels.proofs.configuration.Config.image.Given as goal

abbrev pub invariant-loop-label : goal.invariant-loop-label
invariant-loop-label l = record { images : l.held.items ≡ map (image_at l.images) (take l.label-index l.label-items); count : length l.held.items ≡ l.label-index }
