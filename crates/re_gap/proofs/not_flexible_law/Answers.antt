use Rattle.re_gap.proofs.Consequences.{not_flexible}
use Rattle.re_gap.proofs.not_flexible_law.Goals as goal
use Rattle.re_layers.proofs.FarColours.{far_colours_law}

pub returns : goal.returns
returns c = not_flexible far_colours_law
