use Rattle.std.proofs.Common.{◌≡◌, map, take}
use Rattle.re_labels.specs.Configs.{image_at}
use Rattle.re_given_words.proofs.tuples.labels_at.Given as goal

abbrev pub invariant-loop-place : goal.invariant-loop-place
invariant-loop-place l = l.held.items ≡ map (image_at l.labels) (take l.place-index l.places)
