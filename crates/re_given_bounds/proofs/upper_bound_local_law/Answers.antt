use Rattle.re_given_bounds.proofs.FewColoursMeaning.{upper_bound_local}
use Rattle.re_given_bounds.proofs.upper_bound_local_law.Goals as goal

pub returns : goal.returns
returns c = upper_bound_local
