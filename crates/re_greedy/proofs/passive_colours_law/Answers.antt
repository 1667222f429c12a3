use Rattle.std.proofs.Common.{arith}
use Rattle.re_greedy.proofs.PassiveColours.{SolvableGiven-passive_colours, passive_colours}
use Rattle.re_greedy.proofs.passive_colours_law.Goals as goal

pub returns : goal.returns
returns c = λ a p N a_low a_high p_low p_high enough.
    (passive_colours a p N a_low a_high p_low p_high enough, omega arith, SolvableGiven-passive_colours a p N a_low a_high p_low p_high enough)
