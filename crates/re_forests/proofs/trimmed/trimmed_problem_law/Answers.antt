use Rattle.re_forests.proofs.InViews.{trimmed_problem_law}
use Rattle.re_forests.proofs.trimmed.trimmed_problem_law.Goals as goal

pub returns : goal.returns
returns c = trimmed_problem_law
