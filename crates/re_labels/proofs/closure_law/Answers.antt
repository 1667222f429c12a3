use Rattle.re_labels.proofs.ClosureLaw.{closure_law as law}
use Rattle.re_labels.proofs.closure_law.Goals as goal

pub returns : goal.returns
returns c = law
