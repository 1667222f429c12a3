use Rattle.re_forests.proofs.Consequences.{more_than_constant}
use Rattle.re_forests.proofs.to_views.more_than_constant_on_forests_law.Goals as goal

pub returns : goal.returns
returns c = more_than_constant
