use Rattle.std.proofs.Common.{◌≡◌, ◌++◌, drop}
use Rattle.std.specs.List.{flat_map}
use Rattle.re_describe.specs.LabelledReports.{labels_line}
use Rattle.re_describe.proofs.labelled_reporting.push_labels.Given as goal

abbrev pub invariant-loop-own : goal.invariant-loop-own
invariant-loop-own l = l.text.items ++ flat_map (labels_line l.names) (drop l.own-index l.labels) ≡ l.fn.text.items ++ flat_map (labels_line l.names) l.labels
