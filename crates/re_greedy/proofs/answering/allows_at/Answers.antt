use Rattle.std.proofs.Common.{◌≡◌, ◌≤◌, ◌∙◌, ap, arith, length, subst, sym}
use Rattle.std.specs.List.{AllByRecursion}
use Rattle.std.proofs.lemmas.List.{length-map}
use Rattle.re_greedy.proofs.RowsAt.{placed_all, row_none, row_some}
use Rattle.re_greedy.proofs.answering.allows_at.Goals as goal
use Rattle.re_labels.specs.Rows.{placed, set_at}
use Rattle.re_labels.specs.Sets.{IsLabelSet}
use Rattle.re_labels.specs.declared.TheConstants.{MAX_LABELS}
use Rattle.re_labels.proofs.SetsInOrder.{in_order-allowed, in_order-length}
use Rattle.re_labels.specs.GoodRows.{is_allowed}

pub allows-requires : goal.allows-requires
allows-requires c =
    let is : c.as_slice.result.now ≡ placed c.args.joining.now c.args.places.now =
    placed_all c.args.joining.now c.loop-place.sets.items c.as_slice.result.now c.args.places.now c.loop-place.place-index c.as_slice.ensures.value c.loop-place.invariant.items c.loop-place-test.false in
    let count : length c.as_slice.result.now ≡ c.args.constraint.now.degree = ap length is ∙ length-map c.args.places.now (set_at c.args.joining.now) ∙ c.requires.degree in
    let two : 2 ≤ length c.as_slice.result.now = omega (arith, count, c.degree-degree.ensures.constraint.least) in
    let six : length c.as_slice.result.now ≤ 6 = omega (arith, count, c.degree-degree.ensures.constraint.most) in
    let are : AllByRecursion (IsLabelSet MAX_LABELS) c.as_slice.result.now = subst (AllByRecursion (IsLabelSet MAX_LABELS)) (sym c.as_slice.ensures.value) c.loop-place.invariant.are in
    let (sets, row) = row_some c.as_slice.result.now two six are c.in-Some.row (sym c.from_sets.ensures ∙ c.in-Some.is) in
    in_order-length c.as_slice.result.now c.in-Some.row sets row ∙ count

pub returns-in-Some : goal.returns-in-Some
returns-in-Some c =
    let is : c.as_slice.result.now ≡ placed c.args.joining.now c.args.places.now =
    placed_all c.args.joining.now c.loop-place.sets.items c.as_slice.result.now c.args.places.now c.loop-place.place-index c.as_slice.ensures.value c.loop-place.invariant.items c.loop-place-test.false in
    let count : length c.as_slice.result.now ≡ c.args.constraint.now.degree = ap length is ∙ length-map c.args.places.now (set_at c.args.joining.now) ∙ c.requires.degree in
    let two : 2 ≤ length c.as_slice.result.now = omega (arith, count, c.degree-degree.ensures.constraint.least) in
    let six : length c.as_slice.result.now ≤ 6 = omega (arith, count, c.degree-degree.ensures.constraint.most) in
    let are : AllByRecursion (IsLabelSet MAX_LABELS) c.as_slice.result.now = subst (AllByRecursion (IsLabelSet MAX_LABELS)) (sym c.as_slice.ensures.value) c.loop-place.invariant.are in
    let (sets, row) = row_some c.as_slice.result.now two six are c.in-Some.row (sym c.from_sets.ensures ∙ c.in-Some.is) in
    c.allows.ensures ∙ in_order-allowed c.args.constraint.now c.as_slice.result.now c.in-Some.row sets row ∙ ap (is_allowed c.args.constraint.now) is

pub returns-in-None : goal.returns-in-None
returns-in-None c =
    let is : c.as_slice.result.now ≡ placed c.args.joining.now c.args.places.now =
    placed_all c.args.joining.now c.loop-place.sets.items c.as_slice.result.now c.args.places.now c.loop-place.place-index c.as_slice.ensures.value c.loop-place.invariant.items c.loop-place-test.false in
    let count : length c.as_slice.result.now ≡ c.args.constraint.now.degree = ap length is ∙ length-map c.args.places.now (set_at c.args.joining.now) ∙ c.requires.degree in
    let two : 2 ≤ length c.as_slice.result.now = omega (arith, count, c.degree-degree.ensures.constraint.least) in
    let six : length c.as_slice.result.now ≤ 6 = omega (arith, count, c.degree-degree.ensures.constraint.most) in
    let are : AllByRecursion (IsLabelSet MAX_LABELS) c.as_slice.result.now = subst (AllByRecursion (IsLabelSet MAX_LABELS)) (sym c.as_slice.ensures.value) c.loop-place.invariant.are in
    sym (sym (ap (is_allowed c.args.constraint.now) is) ∙ row_none c.as_slice.result.now two six are c.args.constraint.now (sym c.from_sets.ensures ∙ c.in-None.is))
