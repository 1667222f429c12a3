use Rattle.std.proofs.Common.{◌+◌}
use Rattle.re_local.proofs.FewColours.{few_colours_local, last_hops}
use Rattle.re_local.proofs.few_colours.few_colours_local_law.Goals as goal

pub returns : goal.returns
returns c = (λ a p. last_hops a p + 7, λ problem k h N is. few_colours_local problem is h k N)
