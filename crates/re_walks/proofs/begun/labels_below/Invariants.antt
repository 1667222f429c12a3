use Rattle.std.proofs.Common.{◌≡◌}
use Rattle.re_labels.specs.Lists.{count_from}
use Rattle.re_walks.proofs.begun.labels_below.Given as goal

abbrev pub invariant-loop-label : goal.invariant-loop-label
invariant-loop-label l = l.set ≡ count_from 0 l.label
