use Rattle.std.proofs.Common.{◌≡◌, ap, rules}
use Rattle.std.specs.Ordering.{is_lt}
use Rattle.std.proofs.lemmas.List.Sorted.{answers_always}
use Rattle.re_labels.specs.Rows.{row_cmp}
use Rattle.re_boxes.specs.Ordering.{is_row_before}
use Rattle.re_shaping.proofs.OrderedBounds.{rows_rank}
use Rattle.re_closure.proofs.rows.in_order.Goals as goal

pub returns-clause-order : goal.returns-clause-order
returns-clause-order c = c.sort_unstable_by.ensures.sorted is_row_before rows_rank (answers_always _ _ _ (λ f a r g called. let e : r ≡ row_cmp a.0.now a.1.0.now = search rules in ap is_lt e))
