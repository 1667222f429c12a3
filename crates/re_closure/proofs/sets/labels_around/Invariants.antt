use Rattle.std.proofs.Common.{◌≡◌, filter}
use Rattle.re_labels.specs.Rows.{set_at}
use Rattle.re_labels.specs.Lists.{count_from}
use Rattle.re_labels.specs.Sets.{within}
use Rattle.re_closure.proofs.sets.labels_around.Given as goal

abbrev pub invariant-loop-place : goal.invariant-loop-place
invariant-loop-place l = l.labels ≡ filter (λ label. within l.set (set_at l.sets label)) (count_from 0 l.place)
