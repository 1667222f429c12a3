use Rattle.re_boxes.proofs.DrawnChoices.{first_picked}
use Rattle.re_boxes.proofs.choosing.least_of.Goals as goal

pub returns : goal.returns
returns c = first_picked c.args.set c.first.result c.first.ensures c.number-number.ensures.set
