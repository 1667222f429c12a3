use Rattle.re_labels.specs.Sets.{IsIn}
use Rattle.re_flexible.proofs.Building.{IsBuilt}
use Rattle.re_flexible.proofs.trimming.kept_of.Given as goal
use Rattle.re_flexible.specs.Relations.{Relates}

abbrev pub invariant-loop-label : goal.invariant-loop-label
invariant-loop-label l = IsBuilt (λ x y. Relates l.sets x y × IsIn x l.kept × IsIn y l.kept) l.left.items l.label
