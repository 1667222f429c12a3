use Rattle.re_labels.proofs.LawsOfRows.{all_rows_law as law}
use Rattle.re_labels.proofs.configuration_laws.all_rows_law.Goals as goal

pub returns : goal.returns
returns c = law
