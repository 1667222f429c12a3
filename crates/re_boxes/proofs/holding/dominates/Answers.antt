use Rattle.std.proofs.Common.{◌∙◌}
use Rattle.re_boxes.proofs.RowsAbove.{each_lies, tested}
use Rattle.re_boxes.proofs.holding.dominates.Goals as goal

pub returns-else-each_lies_in : goal.returns-else-each_lies_in
returns-else-each_lies_in c =
    tested c.args.top.now c.args.row.now c.each_lies_in.result
    (c.each_lies_in.ensures ∙ (λ i. each_lies (c.sets.ensures.sets i) (c.sets-2.ensures.sets i))) c.if-each_lies_in.false
