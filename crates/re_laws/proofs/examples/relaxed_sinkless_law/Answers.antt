use Rattle.re_laws.proofs.Worked.{relaxed_sinkless_not_solvable}
use Rattle.re_laws.proofs.examples.relaxed_sinkless_law.Goals as goal

pub returns : goal.returns
returns c = relaxed_sinkless_not_solvable
