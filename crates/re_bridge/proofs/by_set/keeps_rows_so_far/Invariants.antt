use Rattle.std.proofs.Common.{◌≡◌, true, not, map, take}
use Rattle.std.specs.Prelude.{◌||◌}
use Rattle.std.specs.List.{list_all}
use Rattle.re_problem.specs.Steps.{label_of}
use Rattle.re_labels.specs.Constraints.{has_config}
use Rattle.re_bridge.specs.Bridges.{has_entries}
use Rattle.re_bridge.proofs.by_set.keeps_rows_so_far.Given as goal

abbrev pub invariant-loop-row : goal.invariant-loop-row
invariant-loop-row l = list_all (λ row. not (has_entries l.entries row) || has_config l.active (map (label_of l.entries) row)) (take l.row-index l.rows) ≡ true
