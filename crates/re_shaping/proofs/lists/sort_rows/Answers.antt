use Rattle.std.proofs.Common.{map, rules}
use Rattle.std.proofs.lemmas.List.Sorted.{answers_always, ranks_by}
use Rattle.std.specs.Cmp.Lexicographic.{nat_list_cmp_total}
use Rattle.re_labels.specs.Sets.{number}
use Rattle.re_shaping.proofs.StableSorts.{sorted_in_order}
use Rattle.re_boxes.specs.Ordering.{is_row_before}
use Rattle.re_shaping.proofs.lists.sort_rows.Goals as goal

pub returns : goal.returns
returns c =
    let order = ranks_by nat_list_cmp_total (map number) in
    sorted_in_order is_row_before order _ _ (c.in_ok-sort_by.ensures.sorted is_row_before order (answers_always _ _ _ (λ f a r g h. search rules)))
    (c.sort_by.ensures.stable is_row_before order (answers_always _ _ _ (λ f a r g h. search rules)))
