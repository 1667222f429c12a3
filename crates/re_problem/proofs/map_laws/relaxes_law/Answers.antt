use Rattle.re_problem.proofs.VerdictLaws.{relaxes_law}
use Rattle.re_problem.proofs.map_laws.relaxes_law.Goals as goal

pub returns : goal.returns
returns c = relaxes_law
