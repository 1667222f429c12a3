use Rattle.re_bounds.proofs.GivenMeaning.{coloured_bound}
use Rattle.re_bounds.proofs.coloured_bound_law.Goals as goal

pub returns : goal.returns
returns c = coloured_bound
