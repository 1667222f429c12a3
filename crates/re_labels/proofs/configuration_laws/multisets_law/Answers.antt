use Rattle.re_labels.proofs.LawsOfRows.{multisets_law as law}
use Rattle.re_labels.proofs.configuration_laws.multisets_law.Goals as goal

pub returns : goal.returns
returns c = law
