use Rattle.re_labels.proofs.LawsOfSets.{number_law as law}
use Rattle.re_labels.proofs.set_laws.number_law.Goals as goal

pub returns : goal.returns
returns c = law
