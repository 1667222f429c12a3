use Rattle.std.proofs.Common.{◌≡◌}
use Rattle.re_flexible.proofs.Building.{IsBuilt}
use Rattle.re_flexible.proofs.tables.alone.Given as goal
use Rattle.re_flexible.specs.Relations.{Relates}

abbrev pub invariant-loop-other : goal.invariant-loop-other
invariant-loop-other l = IsBuilt (λ x y. (x ≡ l.label) × Relates l.table x y) l.sole.items l.other
