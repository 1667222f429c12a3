use Rattle.re_cover.proofs.GivenOutputs.{no_solution_given_law as law}
use Rattle.re_cover.proofs.no_solution_given_law.Goals as goal

pub returns : goal.returns
returns c = law
