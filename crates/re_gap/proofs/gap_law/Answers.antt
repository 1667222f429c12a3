use Rattle.re_gap.proofs.Gap.{gap}
use Rattle.re_gap.proofs.gap_law.Goals as goal
use Rattle.re_layers.proofs.FarColours.{far_colours_law}

pub returns : goal.returns
returns c = gap far_colours_law
