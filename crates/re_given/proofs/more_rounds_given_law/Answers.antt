use Rattle.re_given.proofs.MoreGiven.{SolvableGiven-more}
use Rattle.re_given.proofs.more_rounds_given_law.Goals as goal
use Rattle.std.proofs.Common.{add-one}

pub returns : goal.returns
returns c = λ problem input T is h. rw add-one (SolvableGiven-more problem input T is h)
