use Rattle.re_forests.proofs.FewOnForests.{few_colours_on_forests}
use Rattle.re_forests.proofs.from_views.few_colours_on_forests_law.Goals as goal

pub returns : goal.returns
returns c = few_colours_on_forests
