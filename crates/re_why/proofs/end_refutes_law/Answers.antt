use Rattle.re_why.proofs.Refuting.{end_refutes_law}
use Rattle.re_why.proofs.end_refutes_law.Goals as goal

pub returns : goal.returns
returns c = end_refutes_law
