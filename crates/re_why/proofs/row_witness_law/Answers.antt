use Rattle.re_why.proofs.Rows.{row_witness_law}
use Rattle.re_why.proofs.row_witness_law.Goals as goal

pub returns : goal.returns
returns c = row_witness_law
