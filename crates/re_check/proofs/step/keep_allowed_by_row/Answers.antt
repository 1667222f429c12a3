use Rattle.re_check.proofs.StepTests.{by_row-test}
use Rattle.re_check.proofs.step.keep_allowed_by_row.Goals as goal

pub returns : goal.returns
returns c = by_row-test c.args.before.now c.args.passive.now c.active.result.now c.args.rows.now c.args.images.now c.keeps_allowed_by_row.result c.requires.maximal c.active.ensures.active c.keeps_allowed_by_row.ensures
