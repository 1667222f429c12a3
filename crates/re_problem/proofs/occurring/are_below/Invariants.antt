use Rattle.std.proofs.Common.{ℕ, ◌<◌, ◌≤◌}
use Rattle.std.specs.Prelude.{IsTrue}
use Rattle.re_labels.specs.Sets.{has}
use Rattle.re_problem.proofs.occurring.are_below.Given as goal

abbrev pub invariant-loop-label : goal.invariant-loop-label
invariant-loop-label l = (x : ℕ) → l.names ≤ x → x < l.label → IsTrue (has l.labels x) → ⊥
