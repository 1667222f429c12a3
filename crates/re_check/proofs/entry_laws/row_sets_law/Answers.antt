use Rattle.re_check.proofs.RowSets.{row_sets_law as law}
use Rattle.re_check.proofs.entry_laws.row_sets_law.Goals as goal

pub returns : goal.returns
returns c = law
