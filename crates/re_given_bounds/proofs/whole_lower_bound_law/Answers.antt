use Rattle.re_given_bounds.proofs.WholeMeaning.{whole_lower_bound}
use Rattle.re_given_bounds.proofs.whole_lower_bound_law.Goals as goal

pub returns : goal.returns
returns c = whole_lower_bound
