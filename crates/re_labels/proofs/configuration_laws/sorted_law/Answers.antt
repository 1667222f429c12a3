use Rattle.re_labels.proofs.LawsOfRows.{sorted_law as law}
use Rattle.re_labels.proofs.configuration_laws.sorted_law.Goals as goal

pub returns : goal.returns
returns c = law
