use Rattle.re_local.proofs.FewColours.{few_colours, last_hops}
use Rattle.re_local.proofs.few_colours.few_colours_law.Goals as goal

pub returns : goal.returns
returns c = λ a p a_low a_high p_low p_high. (last_hops a p, few_colours a p a_low a_high p_low p_high)
