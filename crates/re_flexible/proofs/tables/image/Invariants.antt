use Rattle.std.proofs.Common.{ℕ}
use Rattle.std.specs.Prelude.{◌↔◌}
use Rattle.re_labels.specs.Sets.{IsIn}
use Rattle.re_flexible.proofs.Building.{LedTo}
use Rattle.re_flexible.proofs.tables.image.Given as goal

abbrev pub invariant-loop-label : goal.invariant-loop-label
invariant-loop-label l = (y : ℕ) → IsIn y l.all ↔ LedTo l.table l.set l.label y
