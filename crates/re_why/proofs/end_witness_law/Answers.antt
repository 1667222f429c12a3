use Rattle.re_why.proofs.Ends.{end_witness_law}
use Rattle.re_why.proofs.end_witness_law.Goals as goal

pub returns : goal.returns
returns c = end_witness_law
