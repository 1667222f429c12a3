use Rattle.std.proofs.Common.{suc}
use Rattle.re_given_bounds.proofs.FewEdgeColours.{few_edge_colours}
use Rattle.re_given_bounds.proofs.input_laws.few_edge_colours_law.Goals as goal
use Rattle.re_local.proofs.FewColours.{last_hops}

pub returns : goal.returns
returns c = λ a p a_low a_high p_low p_high. (suc (last_hops p a), few_edge_colours a p a_low a_high p_low p_high)
