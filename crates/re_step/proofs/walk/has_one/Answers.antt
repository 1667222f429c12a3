use Rattle.re_step.proofs.WalkLemmas.{shares_one}
use Rattle.re_step.proofs.walk.has_one.Goals as goal
use Rattle.std.proofs.Common.{rules}

pub returns : goal.returns
returns c = shares_one c.args.labels c.args.set _ (search rules)
