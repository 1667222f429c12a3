use Rattle.std.proofs.Common.{◌≡◌, ◌<◌, ◌∙◌, [], None, filter, ltb, get_or, ap, sym, subst, arith, length}
use Rattle.std.specs.Prelude.{slice_set}
use Rattle.std.proofs.lemmas.Bool.{false≢true}
use Rattle.re_boxes.specs.Boxes.{box_at, with_stronger}
use Rattle.re_labels.proofs.RowCalls.{read_within}
use Rattle.re_labels.specs.Rows.{set_at}
use Rattle.re_labels.proofs.Membership.{AllByRecursion-weaker, length-map'}
use Rattle.re_labels.proofs.Sets.{has-IsIn}
use Rattle.re_labels.specs.Sets.{IsIn, IsLabelSet, after_of, union}
use Rattle.re_boxes.proofs.Covering.{covered_there}
use Rattle.re_boxes.proofs.BoxesOfRows.{box_sets, set_of_row}
use Rattle.re_boxes.proofs.LabelsAbove.{nothing_above, nothing_there}
use Rattle.re_boxes.proofs.SetsAtPlaces.{length-slice_set}
use Rattle.re_boxes.proofs.UpSets.{labels_up}
use Rattle.re_boxes.specs.Sets.{AreSets}
use Rattle.re_boxes.specs.HeldStrength.{ups_in}
use Rattle.re_boxes.proofs.walking.cover_box.Goals as goal
use Rattle.re_labels.specs.declared.TheConstants.{MAX_LABELS}

pub returns-then-has-clause-covered : goal.returns-then-has-clause-covered
returns-then-has-clause-covered g c =
    let s = c.args.strength.now in
    let row = c.args.row.now in
    let set : c.index-sets-place.result ≡ set_at row c.args.place = c.index-sets-place.is
    ∙ read_within c.sets-sets.result.now c.args.place c.index-sets-place.result [] (omega (arith, c.requires.place, ap length c.sets-sets.ensures.sets)) ∙ ap (λ l. get_or l c.args.place []) c.sets-sets.ensures.sets in
    λ next. covered_there c.args.constraint.now (ups_in s.ups.items) (g.K.Keeper.rows c.args.keeper.now) row c.requires.kept c.requires.up.up c.args.place c.args.label (subst (IsIn c.args.label) set (has-IsIn c.index-sets-place.result c.args.label (sym c.has.ensures ∙ c.if-has.true)))

pub returns-then-is_none-clause-covered : goal.returns-then-is_none-clause-covered
returns-then-is_none-clause-covered g c = λ next.
    let row = c.args.row.now in
    let set : c.index-sets-place.result ≡ set_at row c.args.place = c.index-sets-place.is
    ∙ read_within c.sets-sets.result.now c.args.place c.index-sets-place.result [] (omega (arith, c.requires.place, ap length c.sets-sets.ensures.sets)) ∙ ap (λ l. get_or l c.args.place []) c.sets-sets.ensures.sets in
    let none : after_of (set_at row c.args.place) c.args.label ≡ None = ap (λ t. after_of t c.args.label) (sym set) ∙ sym c.after.ensures ∙ nothing_there c.after.result c.if-is_none.ensures in
    absurd (nothing_above (set_at row c.args.place) c.args.label next.some.0 none next.some.1 next.some.2)

pub has_above-requires-clause-other : goal.has_above-requires-clause-other
has_above-requires-clause-other g c =
    (c.up-up.ensures.set.0, AllByRecursion-weaker (λ x. x < c.args.strength.now.labels) (λ x. x < MAX_LABELS) (λ x h. omega (arith, h, c.args.strength.now.few)) c.up-up.result c.up-up.ensures.set.1)

pub returns-then-not-has_above-clause-covered : goal.returns-then-not-has_above-clause-covered
returns-then-not-has_above-clause-covered g c = λ next.
    let row = c.args.row.now in
    let set : c.index-sets-place.result ≡ set_at row c.args.place = c.index-sets-place.is
    ∙ read_within c.sets-sets.result.now c.args.place c.index-sets-place.result [] (omega (arith, c.requires.place, ap length c.sets-sets.ensures.sets)) ∙ ap (λ l. get_or l c.args.place []) c.sets-sets.ensures.sets in
    absurd (false≢true (sym c.if-not-has_above.true ∙ c.has_above.ensures.1 (λ y i l. subst (IsIn y) (sym set) (next.stronger y (subst (IsIn y) c.up-up.ensures.up i) l))))

pub up_above-requires-clause-set : goal.up_above-requires-clause-set
up_above-requires-clause-set g c =
    let s = c.args.strength.now in
    let row = c.args.row.now in
    let set : c.index-sets-place.result ≡ set_at row c.args.place = c.index-sets-place.is
    ∙ read_within c.sets-sets.result.now c.args.place c.index-sets-place.result [] (omega (arith, c.requires.place, ap length c.sets-sets.ensures.sets)) ∙ ap (λ l. get_or l c.args.place []) c.sets-sets.ensures.sets in
    subst (IsLabelSet s.labels) (sym set)
    (set_of_row c.args.constraint.now (ups_in s.ups.items) s.labels c.requires.strong (labels_up s.ups.items s.labels s.count s.below) c.args.constraint.now.degree row
    c.requires.up.is_row c.args.place c.requires.place)

pub cover-requires-clause-must : goal.cover-requires-clause-must
cover-requires-clause-must g c =
    let s = c.args.strength.now in
    let row = c.args.row.now in
    ap length (c.as_slice-2.ensures.value ∙ c.with_set-must.ensures) ∙ length-slice_set c.as_slice.result.now c.args.place _
    ∙ ap length (c.as_slice.ensures.value ∙ c.nothing.ensures) ∙ length-map' _ c.sets-sets.result.now ∙ ap length c.sets-sets.ensures.sets
    ∙ c.requires.up.is_row.count

pub cover-requires-clause-may : goal.cover-requires-clause-may
cover-requires-clause-may g c =
    let s = c.args.strength.now in
    let row = c.args.row.now in
    ap length (c.as_slice-3.ensures.value ∙ c.with_set-may.ensures) ∙ length-slice_set c.sets-sets.result.now c.args.place _ ∙ ap length c.sets-sets.ensures.sets
    ∙ c.requires.up.is_row.count

pub cover-requires-clause-sets : goal.cover-requires-clause-sets
cover-requires-clause-sets g c =
    let s = c.args.strength.now in
    let row = c.args.row.now in
    let ups = ups_in s.ups.items in
    let set : c.index-sets-place.result ≡ set_at row c.args.place = c.index-sets-place.is
    ∙ read_within c.sets-sets.result.now c.args.place c.index-sets-place.result [] (omega (arith, c.requires.place, ap length c.sets-sets.ensures.sets)) ∙ ap (λ l. get_or l c.args.place []) c.sets-sets.ensures.sets in
    let box : c.as_slice-3.result.now ≡ box_at ups c.args.place c.args.label row =
    c.as_slice-3.ensures.value ∙ c.with_set-may.ensures ∙ (λ i. slice_set (c.sets-sets.ensures.sets i) c.args.place (c.union.ensures i))
    ∙ (λ i. slice_set row c.args.place (union (c.up_above.ensures i) (c.up-up.ensures.up i))) ∙ ap (λ t. slice_set row c.args.place (union (with_stronger ups (filter (ltb c.args.label) t)) (ups c.args.label))) set in
    subst (AreSets s.labels) (sym box)
    (box_sets c.args.constraint.now ups s.labels c.requires.strong (labels_up s.ups.items s.labels s.count s.below) c.args.constraint.now.degree row
    c.requires.up.is_row c.args.place c.args.label c.requires.place c.requires.label)
