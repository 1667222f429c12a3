use Rattle.std.proofs.Common.{◌≡◌, ◌++◌}
use Rattle.std.specs.Vec.Iter.{into_iter_items}
use Rattle.re_problem.specs.ProblemTexts.{last_or}
use Rattle.re_cert.specs.Bounds.{next_problems}
use Rattle.re_shaping.specs.Along.{steps_along}
use Rattle.re_shaping.proofs.along.push_along.Given as goal

abbrev pub invariant-loop-stop : goal.invariant-loop-stop
invariant-loop-stop l =
    l.steps.items ++ steps_along l.by_rows (last_or l.first (next_problems l.steps.items)) (into_iter_items l.stop-iterator)
    ≡ l.fn.steps.items ++ steps_along l.by_rows (last_or l.first (next_problems l.fn.steps.items)) l.fn.path.items
