use Rattle.re_laws.proofs.Tables.{Solvable-by}
use Rattle.re_laws.proofs.bound_laws.table_law.Goals as goal

pub returns : goal.returns
returns c = Solvable-by
