use Rattle.std.proofs.Common.{add-one}
use Rattle.re_laws.proofs.MoreRounds.{Solvable-more}
use Rattle.re_laws.proofs.bound_laws.more_rounds_law.Goals as goal

pub returns : goal.returns
returns c = λ problem T h. rw add-one (Solvable-more problem T h)
