use Rattle.std.proofs.Common.{◌+◌}
use Rattle.re_given_bounds.proofs.FewEdgeColours.{few_edge_colours_local}
use Rattle.re_given_bounds.proofs.input_laws.few_edge_colours_local_law.Goals as goal
use Rattle.re_local.proofs.FewColours.{last_hops}

pub returns : goal.returns
returns c = (λ a p. last_hops p a + 14, λ problem k h N is. few_edge_colours_local problem is h k N)
