use Rattle.std.proofs.Common.{◌<◌, ℕ}
use Rattle.re_flexible.proofs.tables.is_within.Given as goal
use Rattle.re_flexible.specs.Relations.{Relates}

abbrev pub invariant-loop-label : goal.invariant-loop-label
invariant-loop-label l = (x y : ℕ) → x < l.label → Relates l.first x y → Relates l.second x y
