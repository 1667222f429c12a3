use Rattle.std.proofs.Common.{◌≡◌, take}
use Rattle.re_labels.specs.Rows.{placed}
use Rattle.re_closure.proofs.finding.fit_at.Given as goal

abbrev pub invariant-loop-label : goal.invariant-loop-label
invariant-loop-label l = l.sets.items ≡ placed l.closure.sets.items (take l.label-index l.label-items)
