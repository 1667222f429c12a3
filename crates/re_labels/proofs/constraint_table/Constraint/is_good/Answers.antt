use Rattle.re_labels.proofs.SaidChoices.{good-by_each}
use Rattle.re_labels.proofs.constraint_table.Constraint.is_good.Goals as goal

pub returns : goal.returns
returns c = good-by_each c.args.self.now c.args.row.now c.each_choice_is.result c.requires c.each_choice_is.ensures.full c.each_choice_is.ensures.each
