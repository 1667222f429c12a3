use Rattle.std.proofs.Common.{◌≡◌, map}
use Rattle.re_labels.specs.Lists.{count_from}
use Rattle.re_check.specs.LabelsOver.{labels_over}
use Rattle.re_check.specs.RowEntries.{row_entries}
use Rattle.re_settings.proofs.finding.sets_for.Given as goal

abbrev pub invariant-loop-label : goal.invariant-loop-label
invariant-loop-label l = l.sets.items ≡ map (labels_over (row_entries l.places l.labels)) (count_from 0 l.label)
