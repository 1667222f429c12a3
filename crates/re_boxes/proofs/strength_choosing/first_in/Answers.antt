use Rattle.re_boxes.proofs.DrawnChoices.{first_met}
use Rattle.re_boxes.proofs.strength_choosing.first_in.Goals as goal

pub returns : goal.returns
returns c = first_met c.args.set c.args.other c.meet.result c.first.result c.meet.ensures c.first.ensures c.number-number.ensures.set
