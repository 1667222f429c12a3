use Rattle.re_check.proofs.StepMeaning.{upper_clauses}
use Rattle.re_check.proofs.clause_laws.upper_clauses_law.Goals as goal

pub returns : goal.returns
returns c = upper_clauses
