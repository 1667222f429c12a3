use Rattle.re_labels.proofs.LawsOfSets.{set_law as law}
use Rattle.re_labels.proofs.set_laws.set_law.Goals as goal

pub returns : goal.returns
returns c = law
