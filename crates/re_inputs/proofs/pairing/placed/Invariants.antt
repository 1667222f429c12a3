use Rattle.std.proofs.Common.{◌≡◌, length, map, take}
use Rattle.re_labels.specs.Configs.{image_at}
use Rattle.re_inputs.proofs.pairing.placed.Given as goal

abbrev pub invariant-loop-place : goal.invariant-loop-place
invariant-loop-place l = record { labels : l.held.items ≡ map (image_at l.labels) (take l.place-index l.order); count : length l.held.items ≡ l.place-index }
