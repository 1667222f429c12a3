use Rattle.re_labels.proofs.Rows.{numbers_cmp}
use Rattle.std.proofs.Common.{ap, ◌∙◌}
use Rattle.re_labels.specs.Rows.{row_cmp}
use Rattle.re_boxes.proofs.ordering.row_order.Goals as goal

pub returns : goal.returns
returns c =
    c.cmp.ensures ∙ numbers_cmp c.sets.result.now c.sets-2.result.now ∙ ap (row_cmp c.sets.result.now) c.sets-2.ensures.sets ∙ ap (λ row. row_cmp row c.args.other.now) c.sets.ensures.sets
