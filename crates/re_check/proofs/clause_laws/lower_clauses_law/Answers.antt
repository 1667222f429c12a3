use Rattle.re_check.proofs.StepMeaning.{lower_clauses}
use Rattle.re_check.proofs.clause_laws.lower_clauses_law.Goals as goal

pub returns : goal.returns
returns c = lower_clauses
