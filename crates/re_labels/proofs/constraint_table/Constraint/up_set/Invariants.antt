use Rattle.std.proofs.Common.{◌≡◌}
use Rattle.re_labels.proofs.Strengths.{strong_so_far}
use Rattle.re_labels.proofs.constraint_table.Constraint.up_set.Given as goal

abbrev pub invariant-loop-place : goal.invariant-loop-place
invariant-loop-place l = l.candidates ≡ strong_so_far l.self l.weak l.labels l.place
