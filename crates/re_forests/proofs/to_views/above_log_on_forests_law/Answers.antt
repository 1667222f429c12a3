use Rattle.re_forests.proofs.Consequences.{above_log}
use Rattle.re_forests.proofs.to_views.above_log_on_forests_law.Goals as goal

pub returns : goal.returns
returns c = above_log
