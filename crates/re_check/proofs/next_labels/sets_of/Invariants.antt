use Rattle.std.proofs.Common.{◌≡◌, take}
use Rattle.std.specs.List.{AllByRecursion}
use Rattle.re_labels.specs.Sets.{IsLabelSet}
use Rattle.re_problem.specs.Steps.{entry_sets}
use Rattle.re_check.proofs.next_labels.sets_of.Given as goal
use Rattle.re_labels.specs.declared.TheConstants.{MAX_LABELS}

abbrev pub invariant-loop-entry : goal.invariant-loop-entry
invariant-loop-entry l = record { sets : l.sets.items ≡ entry_sets (take l.entry-index l.entries); below : AllByRecursion (IsLabelSet MAX_LABELS) l.sets.items }
