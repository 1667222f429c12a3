use Rattle.std.proofs.Common.{Some, None}
use Rattle.re_problem.proofs.ItemShapes.{group_of_count}
use Rattle.re_problem.proofs.items.group_shape.Goals as goal

pub returns-in-None : goal.returns-in-None
returns-in-None c = group_of_count c.args.power c.args.text.now None c.if-text-last-ne93.false c.in-None.ensures

pub returns-in-Some : goal.returns-in-Some
returns-in-Some c = group_of_count c.args.power c.args.text.now (Some c.in-Some.count) c.if-text-last-ne93.false c.in-Some.ensures
