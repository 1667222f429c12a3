use Rattle.re_settle.proofs.Local.{cover_never}
use Rattle.re_settle.proofs.never.graph_way.Goals as goal

pub returns : goal.returns
returns c = cover_never c.args.times c.args.problem.now c.args.nodes c.names-names.ensures.problem.problem c.requires
