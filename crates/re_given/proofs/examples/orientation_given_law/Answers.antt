use Rattle.re_given.proofs.Worked.{orientation_given}
use Rattle.re_laws.proofs.Worked.{orientation_not_solvable}
use Rattle.re_given.proofs.examples.orientation_given_law.Goals as goal

pub returns : goal.returns
returns c = (orientation_given, orientation_not_solvable)
