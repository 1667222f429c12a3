use Rattle.re_labels.proofs.SaidChoices.{found-is}
use Rattle.re_graph.proofs.passing.is_config.Goals as goal

pub returns : goal.returns
returns c = found-is c.args.constraint.now c.args.labels.now c.from_labels.result c.contains.result c.contains.ensures c.from_labels.ensures
