use Rattle.std.proofs.Common.{◌≡◌, take}
use Rattle.re_labels.proofs.domination.without.Given as goal

abbrev pub invariant-loop-place : goal.invariant-loop-place
invariant-loop-place l = l.left.items ≡ take l.place-index l.places
