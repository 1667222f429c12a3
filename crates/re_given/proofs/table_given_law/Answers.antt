use Rattle.re_given.proofs.GivenTables.{SolvableGiven-by}
use Rattle.re_given.proofs.table_given_law.Goals as goal

pub returns : goal.returns
returns c = SolvableGiven-by
