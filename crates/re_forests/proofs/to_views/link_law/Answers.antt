use Rattle.re_forests.proofs.Consequences.{link}
use Rattle.re_forests.proofs.to_views.link_law.Goals as goal

pub returns : goal.returns
returns c = link
