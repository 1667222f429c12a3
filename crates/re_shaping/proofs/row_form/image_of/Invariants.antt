use Rattle.std.proofs.Common.{◌≡◌, map, take}
use Rattle.re_problem.specs.Steps.{label_of}
use Rattle.re_shaping.proofs.row_form.image_of.Given as goal

abbrev pub invariant-loop-set : goal.invariant-loop-set
invariant-loop-set l = l.labels.items ≡ map (label_of l.entries) (take l.set-index l.set-items)
