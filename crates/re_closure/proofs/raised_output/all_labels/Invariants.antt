use Rattle.std.proofs.Common.{◌≡◌}
use Rattle.re_labels.specs.Lists.{count_from}
use Rattle.re_closure.proofs.raised_output.all_labels.Given as goal

abbrev pub invariant-loop-label : goal.invariant-loop-label
invariant-loop-label l = l.all.items ≡ count_from 0 l.label
