use Rattle.re_closure_laws.proofs.Existing.{closure_exists_law as law}
use Rattle.re_closure_laws.proofs.closure_exists_law.Goals as goal

pub returns : goal.returns
returns c = law
