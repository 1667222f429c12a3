use Rattle.re_why.proofs.Uppers.{upper_witness_law}
use Rattle.re_why.proofs.upper_witness_law.Goals as goal

pub returns : goal.returns
returns c = upper_witness_law
