use Rattle.std.proofs.Common.{◌≡◌, ◌∙◌, ap, sym, arith, Some, None, [], length}
use Rattle.std.specs.Prelude.{slice_set}
use Rattle.re_boxes.specs.Grown.{added}
use Rattle.re_labels.proofs.RowCalls.{read_within}
use Rattle.re_labels.specs.Rows.{in_order, row_of, set_at}
use Rattle.re_labels.specs.Sets.{with_label}
use Rattle.re_labels.specs.declared.TheConstants.{MAX_LABELS}
use Rattle.re_why.proofs.Added.{more_good, more_length, more_row}
use Rattle.re_why.proofs.row_witness.can_add.Goals as goal

pub is_good-requires : goal.is_good-requires
is_good-requires c =
    let set : c.index-sets-place.result ≡ set_at c.args.sets.now c.args.place = c.index-sets-place.is ∙ read_within c.args.sets.now c.args.place c.index-sets-place.result [] c.requires.place in
    let more : c.with_set-more.result.items ≡ added c.args.place c.args.label c.args.sets.now = c.with_set-more.ensures ∙ ap (λ s. slice_set c.args.sets.now c.args.place s) (c.insert.ensures ∙ ap (λ s. with_label s c.args.label) set) in
    let some : Some c.in-Some.row ≡ Some (in_order MAX_LABELS c.with_set-more.result.items) = sym c.in-Some.is ∙ more_row c.args.passive.now c.args.sets.now c.args.place c.args.label c.requires.degree c.requires.place c.requires.label c.requires.sets c.with_set-more.result.items more c.from_sets.result
    (omega (arith, c.requires.degree, c.degree-degree.ensures.constraint.least)) (omega (arith, c.requires.degree, c.degree-degree.ensures.constraint.most)) (c.from_sets.ensures ∙ ap (row_of MAX_LABELS) c.as_slice.ensures.value) in
    let row : c.in-Some.row ≡ in_order MAX_LABELS c.with_set-more.result.items = cc in
    more_length c.args.passive.now c.args.sets.now c.args.place c.args.label c.requires.degree c.requires.place c.requires.label c.requires.sets c.with_set-more.result.items more c.in-Some.row row

pub unreachable-requires : goal.unreachable-requires
unreachable-requires c =
    let set : c.index-sets-place.result ≡ set_at c.args.sets.now c.args.place = c.index-sets-place.is ∙ read_within c.args.sets.now c.args.place c.index-sets-place.result [] c.requires.place in
    let more : c.with_set-more.result.items ≡ added c.args.place c.args.label c.args.sets.now = c.with_set-more.ensures ∙ ap (λ s. slice_set c.args.sets.now c.args.place s) (c.insert.ensures ∙ ap (λ s. with_label s c.args.label) set) in
    let some : None ≡ Some (in_order MAX_LABELS c.with_set-more.result.items) = sym c.in-None.is ∙ more_row c.args.passive.now c.args.sets.now c.args.place c.args.label c.requires.degree c.requires.place c.requires.label c.requires.sets c.with_set-more.result.items more c.from_sets.result
    (omega (arith, c.requires.degree, c.degree-degree.ensures.constraint.least)) (omega (arith, c.requires.degree, c.degree-degree.ensures.constraint.most)) (c.from_sets.ensures ∙ ap (row_of MAX_LABELS) c.as_slice.ensures.value) in
    cc

pub returns : goal.returns
returns c =
    let set : c.index-sets-place.result ≡ set_at c.args.sets.now c.args.place = c.index-sets-place.is ∙ read_within c.args.sets.now c.args.place c.index-sets-place.result [] c.requires.place in
    let more : c.with_set-more.result.items ≡ added c.args.place c.args.label c.args.sets.now = c.with_set-more.ensures ∙ ap (λ s. slice_set c.args.sets.now c.args.place s) (c.insert.ensures ∙ ap (λ s. with_label s c.args.label) set) in
    let some : Some c.in-Some.row ≡ Some (in_order MAX_LABELS c.with_set-more.result.items) = sym c.in-Some.is ∙ more_row c.args.passive.now c.args.sets.now c.args.place c.args.label c.requires.degree c.requires.place c.requires.label c.requires.sets c.with_set-more.result.items more c.from_sets.result
    (omega (arith, c.requires.degree, c.degree-degree.ensures.constraint.least)) (omega (arith, c.requires.degree, c.degree-degree.ensures.constraint.most)) (c.from_sets.ensures ∙ ap (row_of MAX_LABELS) c.as_slice.ensures.value) in
    let row : c.in-Some.row ≡ in_order MAX_LABELS c.with_set-more.result.items = cc in
    more_good c.args.passive.now c.args.sets.now c.args.place c.args.label c.requires.degree c.requires.place c.requires.label c.requires.sets c.with_set-more.result.items more c.in-Some.row c.index-sets-place.result c.is_good.result row set (sym c.has.ensures ∙ c.if-has.false) c.is_good.ensures
