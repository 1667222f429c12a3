use Rattle.re_forests.proofs.Consequences.{fewer_on_forests}
use Rattle.re_forests.proofs.to_views.fewer_on_forests_law.Goals as goal

pub returns : goal.returns
returns c = fewer_on_forests
