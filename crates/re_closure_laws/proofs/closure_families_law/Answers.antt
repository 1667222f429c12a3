use Rattle.re_closure_laws.proofs.Generated.{closure_families_law as law}
use Rattle.re_closure_laws.proofs.closure_families_law.Goals as goal

pub returns : goal.returns
returns c = law
