use Rattle.std.proofs.Common.{◌≡◌, map, take}
use Rattle.re_closure_laws.specs.Lines.{labels_within}
use Rattle.re_closure.proofs.rows.row_of.Given as goal

abbrev pub invariant-loop-set : goal.invariant-loop-set
invariant-loop-set l = l.held.items ≡ map (labels_within l.sets) (take l.set-index l.set-items)
