use Rattle.re_problem.proofs.VerdictLaws.{restricts_law}
use Rattle.re_problem.proofs.map_laws.restricts_law.Goals as goal

pub returns : goal.returns
returns c = restricts_law
