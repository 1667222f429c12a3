use Rattle.re_forests.proofs.LocalOnForests.{local_on_forests}
use Rattle.re_forests.proofs.from_views.local_on_forests_law.Goals as goal

pub returns : goal.returns
returns c = local_on_forests
