use Rattle.re_cover.proofs.Outputs.{no_solution_law as law}
use Rattle.re_cover.proofs.no_solution_law.Goals as goal

pub returns : goal.returns
returns c = law
