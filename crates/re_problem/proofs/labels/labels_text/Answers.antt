use Rattle.re_problem.proofs.ItemShapes.{names_of_group, names_of_label}
use Rattle.re_problem.proofs.labels.labels_text.Goals as goal

pub returns-then-base-ne91 : goal.returns-then-base-ne91
returns-then-base-ne91 c = λ power item is. names_of_label c.args.base.now power item c.if-base-ne91.true is

pub returns : goal.returns
returns c = λ power item is. names_of_group c.args.base.now power item c.if-base-ne91.false is
