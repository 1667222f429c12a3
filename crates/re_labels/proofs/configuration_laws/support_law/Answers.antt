use Rattle.re_labels.proofs.Replacing.{support_law as law}
use Rattle.re_labels.proofs.configuration_laws.support_law.Goals as goal

pub returns : goal.returns
returns c = law
