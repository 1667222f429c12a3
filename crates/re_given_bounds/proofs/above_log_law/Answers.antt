use Rattle.re_given_bounds.proofs.ClassMeaning.{above_log}
use Rattle.re_given_bounds.proofs.above_log_law.Goals as goal

pub returns : goal.returns
returns c = above_log
