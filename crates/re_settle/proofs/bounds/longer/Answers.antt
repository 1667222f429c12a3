use Rattle.re_settle.proofs.Known.{zero_known}
use Rattle.re_settle.proofs.bounds.longer.Goals as goal

pub returns-in-None-None : goal.returns-in-None-None
returns-in-None-None c = zero_known c.args.times c.args.problem.now c.names-names.ensures.problem.problem c.requires.not_zero
