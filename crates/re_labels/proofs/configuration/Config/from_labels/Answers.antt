use Rattle.std.proofs.Common.{◌≡◌, ◌∙◌, ap, length, refl, sym, subst, take}
use Rattle.re_labels.proofs.configuration.Config.from_labels.Goals as goal
use Rattle.re_labels.proofs.Sorting.{IsConfig-of_sorted, length-sorted, sorted_again, sorted_held}
use Rattle.re_labels.specs.Configs.{IsConfig, sorted}
use Rattle.re_labels.specs.declared.TheConstants.{MAX_LABELS}

pub returns-then-are_ascending : goal.returns-then-are_ascending
returns-then-are_ascending c = c.filled.ensures ∙ sym (sorted_again c.args.labels.now (c.if-are_ascending.ensures refl))

pub returns : goal.returns
returns c =
    let e = c.as_slice.ensures.value ∙ sorted_held c.args.labels.now c.loop-label.held.items c.deref_mut.result.now c.sort_unstable.new.self c.loop-label.label-index c.loop-label.invariant c.loop-label-test.false
    c.deref_mut.ensures.value c.sort_unstable.ensures.permutation c.sort_unstable.ensures.len c.sort_unstable.ensures.sorted in
    subst (λ n. take n c.filled-2.result ≡ c.as_slice.result.now) (ap length e ∙ length-sorted c.args.labels.now) c.filled-2.ensures ∙ e

pub invariant_of-result-2 : goal.invariant_of-result-2
invariant_of-result-2 c =
    let e = c.as_slice.ensures.value ∙ sorted_held c.args.labels.now c.loop-label.held.items c.deref_mut.result.now c.sort_unstable.new.self c.loop-label.label-index c.loop-label.invariant c.loop-label-test.false
    c.deref_mut.ensures.value c.sort_unstable.ensures.permutation c.sort_unstable.ensures.len c.sort_unstable.ensures.sorted in
    let is = IsConfig-of_sorted c.args.labels.now c.requires.two c.requires.six c.requires.below in
    let items = subst (λ n. take n c.filled-2.result ≡ c.as_slice.result.now) (ap length e ∙ length-sorted c.args.labels.now) c.filled-2.ensures ∙ e in (
      c.requires.two,
      c.requires.six,
      subst (λ items. IsConfig (length c.args.labels.now) MAX_LABELS items) (sym items) (subst (λ n. IsConfig n MAX_LABELS (sorted c.args.labels.now)) (length-sorted c.args.labels.now) is.2),
    )
