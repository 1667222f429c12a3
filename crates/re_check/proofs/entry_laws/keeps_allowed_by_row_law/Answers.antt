use Rattle.re_check.proofs.RowChoices.{keeps_allowed_by_row_law as law}
use Rattle.re_check.proofs.entry_laws.keeps_allowed_by_row_law.Goals as goal

pub returns : goal.returns
returns c = law
