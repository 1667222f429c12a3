use Rattle.std.proofs.Common.{◌≡◌, map, take}
use Rattle.re_closure_laws.specs.Lines.{row_within}
use Rattle.re_closure.proofs.rows.rows_of.Given as goal

abbrev pub invariant-loop-line : goal.invariant-loop-line
invariant-loop-line l = l.rows.items ≡ map (row_within l.sets) (take l.line-index l.lines)
