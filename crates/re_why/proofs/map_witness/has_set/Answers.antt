use Rattle.re_why.proofs.Occurring.{set-absent, set-there}
use Rattle.re_why.proofs.map_witness.has_set.Goals as goal

pub returns-in-Some : goal.returns-in-Some
returns-in-Some c = set-there c.args.entries.now c.args.set c.in-Some.ensures.1

pub returns-in-None : goal.returns-in-None
returns-in-None c = set-absent c.args.entries.now c.args.set c.in-None.ensures
