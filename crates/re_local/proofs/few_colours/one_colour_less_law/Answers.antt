use Rattle.std.proofs.Common.{add-one}
use Rattle.re_local.proofs.FewerColours.{SolvableGiven-one_less}
use Rattle.re_local.proofs.few_colours.one_colour_less_law.Goals as goal

pub returns : goal.returns
returns c = λ a p c a_low a_high p_low p_high many. rw add-one (SolvableGiven-one_less a p c a_low a_high p_low p_high many)
