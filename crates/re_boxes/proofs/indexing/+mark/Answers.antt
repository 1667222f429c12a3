use Rattle.std.proofs.Common.{ap, arith, length}
use Rattle.re_boxes.proofs.DrawnChoices.{without_label-fewer}
use Rattle.re_boxes.proofs.indexing.+mark.Goals as goal

pub mark-requires : goal.mark-requires
mark-requires t c = (omega (arith, c.decreases, ap length c.remove.ensures, without_label-fewer c.args.labels c.in-Some.label c.in-Some.ensures.0), (c.requires.start, c.requires.number))
