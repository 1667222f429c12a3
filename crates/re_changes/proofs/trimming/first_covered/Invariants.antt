use Rattle.std.proofs.Common.{◌≡◌, ◌<◌, ℕ, false}
use Rattle.re_problem.specs.NamedProblems.{unnamed}
use Rattle.re_changes.specs.Trimming.{is_covered}
use Rattle.re_changes.proofs.trimming.first_covered.Given as goal

abbrev pub invariant-loop-label : goal.invariant-loop-label
invariant-loop-label l = (k : ℕ) → k < l.label → is_covered (unnamed l.problem) k ≡ false
