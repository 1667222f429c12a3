use Rattle.re_gap.proofs.Consequences.{flexible}
use Rattle.re_gap.proofs.flexible_law.Goals as goal
use Rattle.re_layers.proofs.FarColours.{far_colours_law}

pub returns : goal.returns
returns c = flexible far_colours_law
