use Rattle.std.proofs.Common.{◌⊎◌}
use Rattle.re_flexible.proofs.Building.{IsBuilt}
use Rattle.re_flexible.proofs.tables.led_through.Given as goal
use Rattle.re_flexible.specs.Relations.{Relates}

abbrev pub invariant-loop-label : goal.invariant-loop-label
invariant-loop-label l = IsBuilt (λ x y. Relates l.table x y ⊎ (Relates l.table x l.through × Relates l.table l.through y)) l.led.items l.label
