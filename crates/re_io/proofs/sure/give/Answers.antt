use Rattle.re_io.proofs.Taken.{next_given}
use Rattle.re_io.proofs.sure.give.Goals as goal

pub returns-clause-given : goal.returns-clause-given
returns-clause-given c = next_given _ _ _ _ c.copy_front-count.ensures.front
