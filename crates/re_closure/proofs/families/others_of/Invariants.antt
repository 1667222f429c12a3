use Rattle.std.proofs.Common.{◌≡◌, filter, not}
use Rattle.re_labels.specs.Lists.{count_from}
use Rattle.re_labels.specs.Sets.{has}
use Rattle.re_closure.proofs.families.others_of.Given as goal

abbrev pub invariant-loop-label : goal.invariant-loop-label
invariant-loop-label l = l.left ≡ filter (λ label. not (has l.set label)) (count_from 0 l.label)
