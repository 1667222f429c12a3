use Rattle.re_check.proofs.StepTests.{allowed-test}
use Rattle.re_bridge.proofs.by_set.keeps_sets.Goals as goal

pub returns : goal.returns
returns c = allowed-test c.args.before.now c.args.passive.now c.args.entries.now c.keeps_allowed.result c.keeps_allowed.ensures
