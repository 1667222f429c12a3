use Rattle.std.proofs.Common.{◌≡◌, map, take}
use Rattle.re_problem.specs.Steps.{label_of}
use Rattle.re_shaping.proofs.row_form.row_form.Given as goal

abbrev pub invariant-loop-row : goal.invariant-loop-row
invariant-loop-row l = l.images.items ≡ map (map (label_of l.entries)) (take l.row-index l.rows)
