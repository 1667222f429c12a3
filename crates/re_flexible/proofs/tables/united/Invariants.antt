use Rattle.std.proofs.Common.{◌⊎◌}
use Rattle.re_flexible.proofs.Building.{IsBuilt}
use Rattle.re_flexible.proofs.tables.united.Given as goal
use Rattle.re_flexible.specs.Relations.{Relates}

abbrev pub invariant-loop-label : goal.invariant-loop-label
invariant-loop-label l = IsBuilt (λ x y. Relates l.first x y ⊎ Relates l.second x y) l.table.items l.label
