use Rattle.re_closure_laws.proofs.Returning.{fixed_law as law}
use Rattle.re_closure_laws.proofs.fixed_law.Goals as goal

pub returns : goal.returns
returns c = law
