use Rattle.std.proofs.Common.{◌≡◌, [], ap, arith, length, slice_index_or, sym, ◌∙◌}
use Rattle.std.proofs.lemmas.List.{ext_get_or}
use Rattle.re_words.proofs.TablingLemmas.{constraints_differ, constraints_same, unlike_bytes}
use Rattle.re_labels.specs.Constraints.{Constraint}
use Rattle.re_words.proofs.tabling.are_same_constraints.Goals as goal

pub returns-then-len : goal.returns-then-len
returns-then-len c = constraints_differ c.args.constraint.now c.args.other.now (λ e. c.if-len.true (c.len.ensures.len ∙ ap (λ (k : Constraint). length k.configs) e ∙ sym c.len-2.ensures.len))

pub returns-then-ne : goal.returns-then-ne
returns-then-ne c = constraints_differ c.args.constraint.now c.args.other.now (λ e.
    unlike_bytes c.labels.result.now c.labels-in-loop-place.result.now c.if-ne.ensures
    (c.labels.ensures.labels ∙ c.in-Some.ensures.config ∙ ap (λ (k : Constraint). slice_index_or k.configs c.loop-place.place []) e ∙ sym c.in-Some-get.ensures.config ∙ sym c.labels-in-loop-place.ensures.labels))

pub returns : goal.returns
returns c =
    let size : length c.args.constraint.now.configs ≡ length c.args.other.now.configs = omega (arith, c.len.ensures.len, c.len-2.ensures.len, c.if-len.false) in
    let degree : c.args.constraint.now.degree ≡ c.args.other.now.degree = omega (arith, c.degree.ensures.degree, c.degree-2.ensures.degree, c.if-degree.false) in
    constraints_same c.args.constraint.now c.args.other.now degree
    (ext_get_or [] c.args.constraint.now.configs c.args.other.now.configs size (λ k l. c.loop-place.invariant k (omega (arith, l, c.len-place-end.ensures.len, c.loop-place-test.false))))
