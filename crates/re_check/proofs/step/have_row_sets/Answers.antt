use Rattle.re_check.proofs.StepTests.{row_sets-test}
use Rattle.re_check.proofs.step.have_row_sets.Goals as goal

pub returns-clause-test : goal.returns-clause-test
returns-clause-test c = row_sets-test c.args.before.now c.args.rows.now c.args.entries.now c.are_row_sets.result c.requires c.are_row_sets.ensures
