use Rattle.re_settle.proofs.Local.{fixed_found}
use Rattle.re_settle.proofs.settling.by_fixed_point.Goals as goal

pub returns : goal.returns
returns c = fixed_found c.args.times c.args.problem.now c.args.way c.names-names.ensures.problem.problem c.requires
