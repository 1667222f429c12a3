use Rattle.re_forests.proofs.Unsolvable.{no_solution}
use Rattle.re_forests.proofs.flexible.no_solution_law.Goals as goal

pub returns : goal.returns
returns c = no_solution
