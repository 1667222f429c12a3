use Rattle.std.proofs.Common.{◌≡◌, map}
use Rattle.re_labels.specs.Lists.{count_from}
use Rattle.re_boxes.proofs.visiting.whole_sets.Given as goal

abbrev pub invariant-loop-label : goal.invariant-loop-label
invariant-loop-label l = l.all ≡ count_from 0 l.label

abbrev pub invariant-loop-label-2 : goal.invariant-loop-label-2
invariant-loop-label-2 l = l.sets.items ≡ map (λ x. count_from 0 l.labels) (count_from 0 l._label)
