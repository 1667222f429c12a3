use Rattle.re_gap.proofs.OnViews.{above_log_on_views}
use Rattle.re_gap.proofs.above_log_on_views_law.Goals as goal

pub returns : goal.returns
returns c = above_log_on_views
