use Rattle.re_problem.proofs.VerdictLaws.{renames_law}
use Rattle.re_problem.proofs.map_laws.renames_law.Goals as goal

pub returns : goal.returns
returns c = renames_law
