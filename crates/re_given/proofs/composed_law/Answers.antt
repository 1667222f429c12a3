use Rattle.std.proofs.Common.{add-one}
use Rattle.re_given.proofs.Composed.{Solvable-composed}
use Rattle.re_given.proofs.composed_law.Goals as goal

pub returns : goal.returns
returns c = λ problem input S T is solvable given. rw add-one (Solvable-composed problem input S T is solvable given)
