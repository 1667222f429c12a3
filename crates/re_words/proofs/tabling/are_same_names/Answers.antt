use Rattle.std.proofs.Common.{◌≡◌, [], ap, arith, length, slice_index_or, sym, ◌∙◌}
use Rattle.std.proofs.lemmas.List.{ext_get_or}
use Rattle.re_words.proofs.TablingLemmas.{lists_differ, lists_same, unlike_bytes}
use Rattle.re_words.proofs.tabling.are_same_names.Goals as goal

pub returns-then-len : goal.returns-then-len
returns-then-len c = lists_differ c.args.names.now c.args.others.now (λ e. c.if-len.true (c.len.ensures.len ∙ ap length e ∙ sym c.len-2.ensures.len))

pub returns-then-ne : goal.returns-then-ne
returns-then-ne c = lists_differ c.args.names.now c.args.others.now (λ e.
    unlike_bytes c.text.result.now c.text-in-loop-label.result.now c.if-ne.ensures
    (c.text.ensures.text ∙ c.name.ensures ∙ ap (λ l. slice_index_or l c.loop-label.label []) e ∙ sym c.name-in-loop-label.ensures ∙ sym c.text-in-loop-label.ensures.text))

pub returns : goal.returns
returns c =
    let size : length c.args.names.now ≡ length c.args.others.now = omega (arith, c.len.ensures.len, c.len-2.ensures.len, c.if-len.false) in
    let few = c.len-label-end.ensures.names.few in
    lists_same c.args.names.now c.args.others.now (ext_get_or [] c.args.names.now c.args.others.now size (λ k l. c.loop-label.invariant k (omega (arith, l, few, c.len-label-end.ensures.len, c.loop-label-test.false))))
