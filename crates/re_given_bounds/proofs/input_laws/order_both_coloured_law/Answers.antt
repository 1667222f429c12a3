use Rattle.re_given_bounds.proofs.BothColourings.{order_both_coloured}
use Rattle.re_given_bounds.proofs.input_laws.order_both_coloured_law.Goals as goal

pub returns : goal.returns
returns c = order_both_coloured
