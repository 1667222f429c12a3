use Rattle.std.proofs.Common.{add-one}
use Rattle.re_given.proofs.Itself.{SolvableGiven-exchanged}
use Rattle.re_given.proofs.exchanged_given_law.Goals as goal

pub returns : goal.returns
returns c = λ problem input T is is_input h. rw add-one (SolvableGiven-exchanged problem input T is is_input h)
