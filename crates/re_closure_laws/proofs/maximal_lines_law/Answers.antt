use Rattle.re_closure_laws.proofs.MaximalLines.{maximal_lines_law as law}
use Rattle.re_closure_laws.proofs.maximal_lines_law.Goals as goal

pub returns : goal.returns
returns c = law
