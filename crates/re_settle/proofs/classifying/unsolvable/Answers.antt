use Rattle.re_settle.proofs.Forests.{unsolvable_settled}
use Rattle.re_settle.proofs.classifying.unsolvable.Goals as goal

pub returns : goal.returns
returns c = unsolvable_settled c.args.times c.args.problem.now c.names-names.ensures.problem.problem c.requires
