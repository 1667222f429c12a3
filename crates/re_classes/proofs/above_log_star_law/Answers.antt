use Rattle.re_classes.proofs.Decided.{above_log_star}
use Rattle.re_classes.proofs.above_log_star_law.Goals as goal

pub returns : goal.returns
returns c = above_log_star
