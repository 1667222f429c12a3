use Rattle.re_problem.specs.NamedProblems.{unnamed}
use Rattle.re_settle.proofs.Counts.{uncounted}
use Rattle.re_settle.proofs.settling.settled.Goals as goal

pub searched-requires-clause-uncounted : goal.searched-requires-clause-uncounted
searched-requires-clause-uncounted c = uncounted (unnamed c.args.problem.now) c.in_ok-other.other c.in_ok-other.ensures c.in_default.not-Exactly
