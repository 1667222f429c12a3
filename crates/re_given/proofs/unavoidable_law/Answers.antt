use Rattle.re_given.proofs.AvoidedInputs.{Zero-from_given}
use Rattle.re_given.proofs.unavoidable_law.Goals as goal

pub returns : goal.returns
returns c = Zero-from_given
