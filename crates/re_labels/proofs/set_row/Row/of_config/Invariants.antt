use Rattle.std.proofs.Common.{◌≡◌, take}
use Rattle.re_labels.specs.Rows.{singles}
use Rattle.re_labels.proofs.set_row.Row.of_config.Given as goal

abbrev pub invariant-loop-label : goal.invariant-loop-label
invariant-loop-label l = l.held.items ≡ singles (take l.label-index l.label-items)
