use Rattle.std.proofs.Common.{ℕ, ◌<◌, suc, [], get_or}
use Rattle.re_labels.specs.Sets.{number}
use Rattle.re_problem.specs.Steps.{entry_sets}
use Rattle.re_check.proofs.row_sets.ascend.Given as goal

abbrev pub invariant-loop-place : goal.invariant-loop-place
invariant-loop-place l = (k : ℕ) → suc k < l.place → number (get_or (entry_sets l.entries) k []) < number (get_or (entry_sets l.entries) (suc k) [])
