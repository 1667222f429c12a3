use Rattle.re_settle.proofs.Local.{never_found}
use Rattle.re_settle.proofs.settling.never.Goals as goal

pub returns : goal.returns
returns c = never_found c.args.times c.args.problem.now c.args.way c.names-names.ensures.problem.problem c.requires
