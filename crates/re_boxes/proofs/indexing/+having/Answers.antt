use Rattle.std.proofs.Common.{ap, arith, length}
use Rattle.re_boxes.proofs.DrawnChoices.{without_label-fewer}
use Rattle.re_boxes.proofs.indexing.+having.Goals as goal

pub having-requires : goal.having-requires
having-requires t c = (omega (arith, c.decreases, ap length c.remove.ensures, without_label-fewer c.args.labels c.in-Some.label c.in-Some.ensures.0), c.requires)
