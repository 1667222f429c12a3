use Rattle.re_forests.proofs.Trimming.{trimmed_set_law}
use Rattle.re_forests.proofs.flexible.trimmed_set_law.Goals as goal

pub returns : goal.returns
returns c = trimmed_set_law
