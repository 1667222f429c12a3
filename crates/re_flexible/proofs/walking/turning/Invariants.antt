use Rattle.re_problem.specs.NamedProblems.{unnamed}
use Rattle.re_flexible.proofs.Parts.{AreTested}
use Rattle.re_flexible.proofs.walking.turning.Given as goal

abbrev pub invariant-loop-label : goal.invariant-loop-label
invariant-loop-label l = AreTested (unnamed l.problem) l.sets l.parts l.seen l.turning l.label
