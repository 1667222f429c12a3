use Rattle.re_why.proofs.Refuting.{upper_refutes_law}
use Rattle.re_why.proofs.upper_refutes_law.Goals as goal

pub returns : goal.returns
returns c = upper_refutes_law
