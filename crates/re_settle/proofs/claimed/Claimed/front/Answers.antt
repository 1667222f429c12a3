use Rattle.re_settle.proofs.Pieces.{begins, front_ended}
use Rattle.re_settle.proofs.claimed.Claimed.front.Goals as goal

pub returns-clause-ended : goal.returns-clause-ended
returns-clause-ended c = front_ended c.args.self.now

pub returns-clause-begins : goal.returns-clause-begins
returns-clause-begins c = begins c.args.self.now c.requires.known
