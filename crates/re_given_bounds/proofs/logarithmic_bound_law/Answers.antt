use Rattle.re_given_bounds.proofs.LocalMeaning.{logarithmic_bound}
use Rattle.re_given_bounds.proofs.logarithmic_bound_law.Goals as goal

pub returns : goal.returns
returns c = logarithmic_bound
