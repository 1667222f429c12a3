use Rattle.std.specs.List.{AllByRecursion, AllZip}
use Rattle.re_labels.specs.Lists.{count_from}
use Rattle.re_given_words.specs.Asking.{IsSetAt}
use Rattle.re_given_words.proofs.meetings.+choices_from.Given as goal

abbrev pub decreases-choices_from : goal.decreases-choices_from
decreases-choices_from l = l.count

abbrev pub invariant-loop-at : goal.invariant-loop-at
invariant-loop-at l = AllByRecursion (λ choice. AllZip (IsSetAt l.ports l.meetings l.degree) (count_from l.spot l.count) choice) l.all.items
