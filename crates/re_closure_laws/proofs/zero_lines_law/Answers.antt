use Rattle.re_closure_laws.proofs.Closing.{zero_lines_law as law}
use Rattle.re_closure_laws.proofs.zero_lines_law.Goals as goal

pub returns : goal.returns
returns c = law
