use Rattle.re_forests.specs.Flexible.{AreJoined}
use Rattle.re_problem.specs.NamedProblems.{unnamed}
use Rattle.re_flexible.proofs.Building.{IsBuilt}
use Rattle.re_flexible.proofs.walking.parts_of.Given as goal
use Rattle.re_flexible.specs.Families.{set_with}

abbrev pub invariant-loop-label : goal.invariant-loop-label
invariant-loop-label l = IsBuilt (λ x y. AreJoined (unnamed l.problem) (set_with l.sets x) x y) l.parts.items l.label
