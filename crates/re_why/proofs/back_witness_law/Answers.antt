use Rattle.re_why.proofs.Ends.{back_witness_law}
use Rattle.re_why.proofs.back_witness_law.Goals as goal

pub returns : goal.returns
returns c = back_witness_law
