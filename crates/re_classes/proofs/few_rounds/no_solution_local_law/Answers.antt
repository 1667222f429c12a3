use Rattle.re_classes.proofs.BeyondLocal.{no_solution_local}
use Rattle.re_classes.proofs.few_rounds.no_solution_local_law.Goals as goal

pub returns : goal.returns
returns c = no_solution_local
