use Rattle.std.proofs.Common.{◌≡◌, ◌++◌, drop}
use Rattle.std.specs.List.{flat_map}
use Rattle.re_describe.specs.Reports.{row_line}
use Rattle.re_describe.proofs.problems.push_rows.Given as goal

abbrev pub invariant-loop-row : goal.invariant-loop-row
invariant-loop-row l = l.text.items ++ flat_map (row_line l.names) (drop l.row-index l.rows) ≡ l.fn.text.items ++ flat_map (row_line l.names) l.rows
