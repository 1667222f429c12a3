use Rattle.std.proofs.Common.{◌≡◌, length}
use Rattle.std.specs.Prelude.{filter, ◌==◌}
use Rattle.re_labels.specs.Lists.{count_from}
use Rattle.re_changes.specs.Classes.{least_equal, strong_by}
use Rattle.re_changes.proofs.classes.least_labels.Given as goal

abbrev pub invariant-loop-label : goal.invariant-loop-label
invariant-loop-label l = l.least.items ≡ filter (λ a. least_equal (strong_by l.ups) (length l.ups) a == a) (count_from 0 l.label)
