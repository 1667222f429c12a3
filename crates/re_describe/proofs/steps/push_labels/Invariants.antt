use Rattle.std.proofs.Common.{◌≡◌, ◌++◌}
use Rattle.std.specs.List.{flat_map}
use Rattle.re_labels.specs.Lists.{count_from}
use Rattle.re_describe.specs.Steps.{label_line}
use Rattle.re_describe.proofs.steps.push_labels.Given as goal

abbrev pub invariant-loop-label : goal.invariant-loop-label
invariant-loop-label l = l.text.items ≡ l.fn.text.items ++ flat_map (label_line l.names l.index l.next l.next_index l.meant) (count_from 0 l.label)
