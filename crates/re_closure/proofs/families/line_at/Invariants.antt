use Rattle.std.proofs.Common.{◌≡◌, take}
use Rattle.re_labels.specs.Rows.{placed}
use Rattle.re_closure.proofs.families.line_at.Given as goal

abbrev pub invariant-loop-label : goal.invariant-loop-label
invariant-loop-label l = l.held.items ≡ placed l.sets (take l.label-index l.config)
