use Rattle.std.proofs.Common.{◌≡◌}
use Rattle.re_labels.specs.Lists.{count_from}
use Rattle.re_labels.proofs.strength.labels_below.Given as goal

abbrev pub invariant-loop-label : goal.invariant-loop-label
invariant-loop-label l = l.all ≡ count_from 0 l.label
