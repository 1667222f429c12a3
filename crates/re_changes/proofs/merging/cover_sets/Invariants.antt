use Rattle.std.proofs.Common.{◌≡◌, length, map}
use Rattle.re_labels.specs.Lists.{count_from}
use Rattle.re_labels.specs.Sets.{meet}
use Rattle.re_labels.specs.Strength.{up_set}
use Rattle.re_changes.proofs.merging.cover_sets.Given as goal

abbrev pub invariant-loop-label : goal.invariant-loop-label
invariant-loop-label l = l.covers.items ≡ map (λ label. meet (up_set l.problem.active label (length l.problem.names)) (up_set l.problem.passive label (length l.problem.names))) (count_from 0 l.label)
