use Rattle.re_given.proofs.SlowGiven.{SolvableGiven-zero}
use Rattle.re_given.proofs.ZeroGiven.{ZeroGiven-from}
use Rattle.re_given.specs.Given.{answer_known}
use Rattle.re_given.proofs.zero_given_law.Goals as goal

pub returns : goal.returns
returns c = λ problem input is is_input. ((λ h. ZeroGiven-from problem input (answer_known h.0) is is_input h.1.solves), SolvableGiven-zero problem input is_input)
