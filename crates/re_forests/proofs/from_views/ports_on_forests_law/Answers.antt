use Rattle.re_forests.proofs.PortsOnForests.{ports_on_forests}
use Rattle.re_forests.proofs.from_views.ports_on_forests_law.Goals as goal

pub returns : goal.returns
returns c = ports_on_forests
