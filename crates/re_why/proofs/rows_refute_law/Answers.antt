use Rattle.re_why.proofs.Refuting.{rows_refute_law}
use Rattle.re_why.proofs.rows_refute_law.Goals as goal

pub returns : goal.returns
returns c = rows_refute_law
