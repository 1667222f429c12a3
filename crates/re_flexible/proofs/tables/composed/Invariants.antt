use Rattle.re_flexible.proofs.Building.{IsBuilt}
use Rattle.re_flexible.proofs.tables.composed.Given as goal
use Rattle.re_flexible.specs.Relations.{Composes}

abbrev pub invariant-loop-label : goal.invariant-loop-label
invariant-loop-label l = IsBuilt (Composes l.first l.second) l.table.items l.label
