use Rattle.re_problem.proofs.UsedLabels.{labels-named}
use Rattle.re_problem.proofs.occurring.are_named.Goals as goal

pub returns-clause-named : goal.returns-clause-named
returns-clause-named c = labels-named c.args.constraint.now.configs c.args.labels c.args.names c.requires c.are_below.result c.are_below.ensures
