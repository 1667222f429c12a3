use Rattle.std.proofs.Common.{◌≡◌}
use Rattle.std.specs.Prelude.{filter}
use Rattle.re_labels.specs.Lists.{count_from}
use Rattle.re_changes.specs.Classes.{are_equal, strong_by}
use Rattle.re_changes.proofs.classes.class_of.Given as goal

abbrev pub invariant-loop-other : goal.invariant-loop-other
invariant-loop-other l = l.class ≡ filter (are_equal (strong_by l.ups) l.label) (count_from 0 l.other)
