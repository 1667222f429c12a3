use Rattle.re_step.proofs.SetLemmas.{if_ok_three}
use Rattle.re_step.proofs.StepLemmas.{rows_filled, rows_sets, sets_are}
use Rattle.re_closure.proofs.occurring.sets_of_rows.Goals as goal

pub sets_of-requires-clause-filled : goal.sets_of-requires-clause-filled
sets_of-requires-clause-filled c = rows_filled c.args.constraint.now c.args.labels c.args.rows.now c.requires.rows

pub sets_of-requires-clause-sets : goal.sets_of-requires-clause-sets
sets_of-requires-clause-sets c = rows_sets c.args.constraint.now c.args.labels c.args.rows.now c.requires.labels c.requires.rows

pub returns : goal.returns
returns c = if_ok_three c.sets_of.result (λ sets r f g. sets_are c.args.constraint.now c.args.labels c.args.rows.now sets.items c.requires.rows r f g) c.sets_of.ensures.rises c.sets_of.ensures.from c.sets_of.ensures.all
