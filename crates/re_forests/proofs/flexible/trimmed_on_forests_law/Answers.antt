use Rattle.re_forests.proofs.OnExtensions.{trimmed_on_forests}
use Rattle.re_forests.proofs.flexible.trimmed_on_forests_law.Goals as goal

pub returns : goal.returns
returns c = trimmed_on_forests
