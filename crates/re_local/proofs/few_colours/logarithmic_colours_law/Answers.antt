use Rattle.re_local.proofs.FewerColours.{SolvableGiven-logarithmic}
use Rattle.re_local.proofs.few_colours.logarithmic_colours_law.Goals as goal

pub returns : goal.returns
returns c = SolvableGiven-logarithmic
