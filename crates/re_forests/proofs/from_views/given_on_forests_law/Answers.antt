use Rattle.re_forests.proofs.GivenOnForests.{given_on_forests}
use Rattle.re_forests.proofs.from_views.given_on_forests_law.Goals as goal

pub returns : goal.returns
returns c = given_on_forests
