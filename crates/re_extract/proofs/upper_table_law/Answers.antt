use Rattle.re_extract.proofs.Written.{upper_solves}
use Rattle.re_extract.proofs.upper_table_law.Goals as goal

pub returns : goal.returns
returns c = upper_solves
