use Rattle.re_closure_laws.proofs.Unique.{closure_unique_law as law}
use Rattle.re_closure_laws.proofs.closure_unique_law.Goals as goal

pub returns : goal.returns
returns c = law
