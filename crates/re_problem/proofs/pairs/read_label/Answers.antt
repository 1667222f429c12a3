use Rattle.re_problem.proofs.KnownLabels.{first-known}
use Rattle.re_problem.proofs.pairs.read_label.Goals as goal

pub returns-in-Some-clause-below : goal.returns-in-Some-clause-below
returns-in-Some-clause-below c = first-known c.args.line.now c.args.item.now c.args.names.now c.in-Some.set c.first.result c.in-Some.ensures c.first.ensures
