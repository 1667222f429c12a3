use Rattle.re_why.proofs.Holding.{held-test}
use Rattle.re_why.proofs.map_witness.is_held.Goals as goal

pub returns : goal.returns
returns c = held-test c.args.constraint.now c.args.config.now c.contains.result c.contains.ensures
