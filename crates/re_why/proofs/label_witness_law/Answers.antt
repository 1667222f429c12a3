use Rattle.re_why.proofs.Uppers.{label_witness_law}
use Rattle.re_why.proofs.label_witness_law.Goals as goal

pub returns : goal.returns
returns c = label_witness_law
