use Rattle.re_labels.proofs.LawsOfRows.{row_law as law}
use Rattle.re_labels.proofs.configuration_laws.row_law.Goals as goal

pub returns : goal.returns
returns c = law
