use Rattle.re_labels.specs.Sets.{IsIn}
use Rattle.re_flexible.proofs.Building.{IsBuilt}
use Rattle.re_flexible.proofs.trimming.one_set.Given as goal

abbrev pub invariant-loop-label : goal.invariant-loop-label
invariant-loop-label l = IsBuilt (λ x y. IsIn x l.set × IsIn y l.set) l.sets.items l.label
