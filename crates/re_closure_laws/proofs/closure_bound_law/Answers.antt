use Rattle.re_closure_laws.proofs.Closing.{closure_bound_law as law}
use Rattle.re_closure_laws.proofs.closure_bound_law.Goals as goal

pub returns : goal.returns
returns c = law
