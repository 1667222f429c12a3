use Rattle.re_given.proofs.Ungiven.{IsInput-nothing, Solvable-nothing, SolvableGiven-ungiven}
use Rattle.re_given.specs.Inputs.{nothing}
use Rattle.re_given.proofs.nothing_given_law.Goals as goal

pub returns : goal.returns
returns c = λ problem T is. (Solvable-nothing problem T is, SolvableGiven-ungiven problem (nothing problem) T (IsInput-nothing problem is))
