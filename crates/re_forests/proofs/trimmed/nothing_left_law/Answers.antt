use Rattle.re_forests.proofs.InViews.{never}
use Rattle.re_forests.proofs.trimmed.nothing_left_law.Goals as goal

pub returns : goal.returns
returns c = never
