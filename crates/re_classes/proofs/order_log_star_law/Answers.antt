use Rattle.re_classes.proofs.Decided.{order_log_star}
use Rattle.re_classes.proofs.order_log_star_law.Goals as goal

pub returns : goal.returns
returns c = order_log_star
