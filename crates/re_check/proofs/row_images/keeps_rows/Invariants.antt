use Rattle.std.proofs.Common.{ℕ, ◌<◌, [], map, get_or}
use Rattle.re_problem.specs.Steps.{label_of}
use Rattle.re_labels.specs.Constraints.{Has}
use Rattle.re_check.proofs.row_images.keeps_rows.Given as goal

abbrev pub invariant-loop-row : goal.invariant-loop-row
invariant-loop-row l = (k : ℕ) → k < l.row-index → Has l.to (map (label_of l.entries) (get_or l.rows k []))
