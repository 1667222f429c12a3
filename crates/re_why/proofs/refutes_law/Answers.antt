use Rattle.re_why.proofs.Refuting.{refutes_law}
use Rattle.re_why.proofs.refutes_law.Goals as goal

pub returns : goal.returns
returns c = refutes_law
