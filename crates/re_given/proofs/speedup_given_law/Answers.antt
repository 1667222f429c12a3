use Rattle.std.proofs.Common.{add-one}
use Rattle.re_given.proofs.ChainGiven.{SolvableGiven-speedup}
use Rattle.re_given.proofs.speedup_given_law.Goals as goal

pub returns : goal.returns
returns c = λ problem input T is is_input. rw add-one (SolvableGiven-speedup problem input T is is_input)
