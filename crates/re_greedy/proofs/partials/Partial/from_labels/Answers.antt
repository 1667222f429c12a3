use Rattle.std.proofs.Common.{◌≡◌, ◌≤◌, length, sym, subst, arith}
use Rattle.std.specs.List.{refill}
use Rattle.re_greedy.proofs.partials.Partial.from_labels.Goals as goal
use Rattle.re_labels.proofs.Sorting.{IsConfig-sorted, length-sorted, sorted_held}
use Rattle.re_labels.specs.Configs.{IsConfig, sorted}
use Rattle.re_labels.specs.declared.TheConstants.{MAX_LABELS}

pub returns : goal.returns
returns c =
    sorted_held c.args.labels.now c.loop-label.held.items c.deref_mut.result.now c.sort_unstable.new.self c.loop-label.label-index c.loop-label.invariant c.loop-label-test.false
    c.deref_mut.ensures.value c.sort_unstable.ensures.permutation c.sort_unstable.ensures.len c.sort_unstable.ensures.sorted

pub invariant_of-result : goal.invariant_of-result
invariant_of-result c =
    let e : refill (length c.loop-label.held.items) c.loop-label.held.items c.sort_unstable.new.self ≡ sorted c.args.labels.now =
    sorted_held c.args.labels.now c.loop-label.held.items c.deref_mut.result.now c.sort_unstable.new.self c.loop-label.label-index c.loop-label.invariant c.loop-label-test.false
    c.deref_mut.ensures.value c.sort_unstable.ensures.permutation c.sort_unstable.ensures.len c.sort_unstable.ensures.sorted in
    let count : length (sorted c.args.labels.now) ≡ length c.args.labels.now = length-sorted c.args.labels.now in
    let few : length (sorted c.args.labels.now) ≤ 6 = omega (arith, count, c.requires.six) in
    let config : IsConfig (length (sorted c.args.labels.now)) MAX_LABELS (sorted c.args.labels.now) = IsConfig-sorted (length (sorted c.args.labels.now)) MAX_LABELS c.args.labels.now (sym count) c.requires.below in
    subst (λ r. (length r ≤ 6) × IsConfig (length r) MAX_LABELS r) (sym e) (few, config)
