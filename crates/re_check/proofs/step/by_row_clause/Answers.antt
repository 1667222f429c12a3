use Rattle.re_check.proofs.StepTests.{maximal-rows}
use Rattle.re_check.proofs.step.by_row_clause.Goals as goal

pub keep_allowed_by_row-requires-clause-maximal : goal.keep_allowed_by_row-requires-clause-maximal
keep_allowed_by_row-requires-clause-maximal c = maximal-rows c.args.before.now c.args.rows.now c.requires.maximal
