use Rattle.std.proofs.Common.{◌<◌, ℕ}
use Rattle.re_flexible.proofs.levels.first_set.Given as goal
use Rattle.re_flexible.specs.Relations.{Relates}

abbrev pub invariant-loop-label : goal.invariant-loop-label
invariant-loop-label l = (x : ℕ) → x < l.label → Relates l.sets x x → ⊥
