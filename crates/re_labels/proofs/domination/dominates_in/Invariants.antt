use Rattle.std.proofs.Common.{◌≡◌}
use Rattle.re_labels.specs.Lists.{count_from}
use Rattle.re_labels.proofs.domination.dominates_in.Given as goal

abbrev pub invariant-loop-place : goal.invariant-loop-place
invariant-loop-place l = l.places.items ≡ count_from 0 l.place
