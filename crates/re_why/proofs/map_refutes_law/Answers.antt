use Rattle.re_why.proofs.Refuting.{map_refutes_law}
use Rattle.re_why.proofs.map_refutes_law.Goals as goal

pub returns : goal.returns
returns c = map_refutes_law
