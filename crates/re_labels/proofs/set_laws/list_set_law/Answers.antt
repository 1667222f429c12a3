use Rattle.re_labels.proofs.ListSets.{law}
use Rattle.re_labels.proofs.set_laws.list_set_law.Goals as goal

pub returns : goal.returns
returns c = law
