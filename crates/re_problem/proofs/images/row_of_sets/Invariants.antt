use Rattle.std.proofs.Common.{◌≡◌, map, take}
use Rattle.re_labels.specs.Rows.{set_at}
use Rattle.re_problem.proofs.images.row_of_sets.Given as goal

abbrev pub invariant-loop-label : goal.invariant-loop-label
invariant-loop-label l = l.there.items ≡ map (set_at l.sets) (take l.label-index l.label-items)
