use Rattle.re_closure_laws.proofs.Monotone.{generated_law as law}
use Rattle.re_closure_laws.proofs.generated_law.Goals as goal

pub returns : goal.returns
returns c = law
