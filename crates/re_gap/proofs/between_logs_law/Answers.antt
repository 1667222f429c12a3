use Rattle.re_gap.proofs.Consequences.{between_logs}
use Rattle.re_gap.proofs.between_logs_law.Goals as goal
use Rattle.re_layers.proofs.FarColours.{far_colours_law}

pub returns : goal.returns
returns c = between_logs far_colours_law
