use Rattle.re_check.proofs.UpperBounds.{upper_where_accepted}
use Rattle.re_check.proofs.upper_bounds.upper_law.Goals as goal

pub returns : goal.returns
returns c = upper_where_accepted
