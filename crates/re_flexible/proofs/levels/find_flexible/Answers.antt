use Rattle.re_problem.specs.NamedProblems.{unnamed}
use Rattle.re_flexible.proofs.Chains.{flexible_trimmed}
use Rattle.re_flexible.proofs.levels.find_flexible.Goals as goal

pub returns-in-NoSolution : goal.returns-in-NoSolution
returns-in-NoSolution c = λ set flexible. c.in-NoSolution.ensures set flexible.1.some.0 (flexible_trimmed (unnamed c.args.problem.now) set flexible.0 flexible.1) flexible.1.some.1
