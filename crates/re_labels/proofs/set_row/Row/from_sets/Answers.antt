use Rattle.std.proofs.Common.{ap, ◌∙◌, Some, map, arith}
use Rattle.re_labels.proofs.set_row.Row.from_sets.Goals as goal
use Rattle.re_labels.proofs.Placing.{row_found}
use Rattle.re_labels.proofs.Rows.{IsRow-of_numbers}
use Rattle.re_labels.proofs.Sorting.{sorted_whole}
use Rattle.re_labels.specs.Configs.{sorted}
use Rattle.re_labels.specs.Sets.{set_of}
use Rattle.re_labels.specs.declared.TheConstants.{MAX_LABELS}

pub returns : goal.returns
returns c =
    ap Some (c.sets_of-held.ensures ∙ ap (map (set_of MAX_LABELS)) c.as_slice.ensures.value)
    ∙ row_found c.args.sets.now _ (omega arith) (omega arith) c.in_ok-numbers.ensures.0
    (sorted_whole c.in_ok-numbers.numbers.items c.deref_mut.result.now c.sort_unstable.new.self c.deref_mut.ensures.value c.sort_unstable.ensures.permutation c.sort_unstable.ensures.len c.sort_unstable.ensures.sorted
    ∙ ap sorted c.in_ok-numbers.ensures.1)

pub invariant_of-result : goal.invariant_of-result
invariant_of-result c =
    IsRow-of_numbers MAX_LABELS c.args.sets.now c.in_ok-numbers.numbers.items _ c.sets_of-held.result.items c.in_ok-numbers.ensures.0 c.in_ok-numbers.ensures.1 c.in_ok-numbers.ensures.2
    (sorted_whole c.in_ok-numbers.numbers.items c.deref_mut.result.now c.sort_unstable.new.self c.deref_mut.ensures.value c.sort_unstable.ensures.permutation c.sort_unstable.ensures.len c.sort_unstable.ensures.sorted)
    (c.sets_of-held.ensures ∙ ap (map (set_of MAX_LABELS)) c.as_slice.ensures.value) (omega arith) (omega arith)
