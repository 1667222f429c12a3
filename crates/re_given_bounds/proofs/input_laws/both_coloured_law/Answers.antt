use Rattle.re_given_bounds.proofs.BothColourings.{both_coloured}
use Rattle.re_given_bounds.proofs.input_laws.both_coloured_law.Goals as goal

pub returns : goal.returns
returns c = both_coloured
