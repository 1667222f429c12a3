use Rattle.re_problem.specs.Items.{labels_of}
use Rattle.re_problem.proofs.ItemShapes.{no_labels, not_one_label, one_label}
use Rattle.re_problem.proofs.items.label_shape.Goals as goal

pub returns-in-None : goal.returns-in-None
returns-in-None c = no_labels c.args.power (labels_of c.args.text.now) c.in-None.ensures

pub returns-then-count-ne1 : goal.returns-then-count-ne1
returns-then-count-ne1 c = not_one_label c.args.power (labels_of c.args.text.now) c.in-Some.count c.in-Some.ensures c.if-count-ne1.true

pub returns-else-count-ne1 : goal.returns-else-count-ne1
returns-else-count-ne1 c = one_label c.args.power (labels_of c.args.text.now) c.in-Some.count c.in-Some.ensures c.if-count-ne1.false
