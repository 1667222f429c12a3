use Rattle.re_check.proofs.StepTests.{maximal-rows}
use Rattle.re_check.proofs.step.by_set_clause.Goals as goal

pub have_row_sets-requires : goal.have_row_sets-requires
have_row_sets-requires c = maximal-rows c.args.before.now c.args.rows.now c.requires.maximal
