use Rattle.re_forests.proofs.GivenOnForests.{coloured_on_forests}
use Rattle.re_forests.proofs.from_views.coloured_on_forests_law.Goals as goal

pub returns : goal.returns
returns c = coloured_on_forests
