use Rattle.re_flexible.proofs.Building.{IsBuilt}
use Rattle.re_flexible.proofs.together.nothing.Given as goal

abbrev pub invariant-loop-label : goal.invariant-loop-label
invariant-loop-label l = IsBuilt (λ x y. ⊥) l.table.items l._label
