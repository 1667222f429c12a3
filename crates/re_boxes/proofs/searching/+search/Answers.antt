use Rattle.std.proofs.Common.{◌≡◌, ◌<◌, ◌∙◌, [], ap, sym, subst, arith, length, get_or, not, filter, false, eqb}
use Rattle.std.specs.Prelude.{slice_set}
use Rattle.std.proofs.lemmas.Bool.Decides.{nat_tests}
use Rattle.std.proofs.lemmas.Result.{on_ok_weaker}
use Rattle.re_boxes.specs.Boxes.{IsCovered}
use Rattle.re_boxes.proofs.Covering.{covered_by_row, covered_more}
use Rattle.re_labels.proofs.Rearranging.{length-AllZip}
use Rattle.re_labels.proofs.RowCalls.{read_within}
use Rattle.re_labels.specs.Rows.{set_at}
use Rattle.re_labels.proofs.Membership.{AllByRecursion-weaker}
use Rattle.re_labels.proofs.Sets.{has-IsIn}
use Rattle.re_labels.proofs.Tests.{eqb-true}
use Rattle.re_labels.specs.Sets.{IsIn, IsLabelSet, has, union}
use Rattle.re_labels.proofs.SaidChoices.{weight}
use Rattle.re_boxes.proofs.RowsOfSets.{filled}
use Rattle.re_boxes.proofs.Growing.{longer_has}
use Rattle.re_boxes.proofs.OtherChoices.{held_place, place_first}
use Rattle.re_boxes.proofs.Parting.{chosen_below, covered_by_parts, empty_part, empty_set, held_part, left_out_lighter, left_out_sets, next_part, no_part}
use Rattle.re_boxes.proofs.SetsAtPlaces.{length-slice_set}
use Rattle.re_boxes.proofs.UpSets.{label_sets_more}
use Rattle.re_labels.specs.declared.TheConstants.{MAX_LABELS}
use Rattle.re_boxes.specs.Sets.{AreSets}
use Rattle.re_boxes.specs.Choosing.{IsBadBehind}
use Rattle.re_boxes.specs.HeldStrength.{ups_in}
use Rattle.re_boxes.specs.Parts.{left_out}
use Rattle.re_boxes.proofs.searching.+search.Goals as goal

pub cover-strong_bad_choice-requires-clause-sets : goal.cover-strong_bad_choice-requires-clause-sets
cover-strong_bad_choice-requires-clause-sets g t c = AllByRecursion-weaker _ (IsLabelSet c.args.strength.now.labels) (λ s a. a.0) c.args.may.now c.requires.sets

pub cover-settle-requires-clause-good : goal.cover-settle-requires-clause-good
cover-settle-requires-clause-good g t c = record { count = c.requires.may; filled = filled c.args.strength.now.labels c.args.may.now c.requires.sets; choice = c.in-None.ensures }

pub cover-returns-in-None-clause-covered : goal.cover-returns-in-None-clause-covered
cover-returns-in-None-clause-covered g t c =
    on_ok_weaker c.settle.result (covered_by_row c.args.constraint.now (ups_in c.args.strength.now.ups.items) (g.K.Keeper.rows c.settle.new.self) c.args.must.now c.args.may.now) c.settle.ensures.dominated

pub cover-returns-in-Some-clause-covered : goal.cover-returns-in-Some-clause-covered
cover-returns-in-Some-clause-covered g t c =
    on_ok_weaker c.cover_choice.result (λ covered. covered_by_parts c.args.constraint.now (ups_in c.args.strength.now.ups.items) (g.K.Keeper.rows c.cover_choice.new.keeper) c.args.must.now c.args.may.now c.as_slice.result.now
    (subst (λ l. IsBadBehind c.args.constraint.now [] c.args.may.now l) (sym c.as_slice.ensures.value) c.in-Some.ensures) covered) c.cover_choice.ensures.covered

pub cover_part-bounds-choice-place : goal.cover_part-bounds-choice-place
cover_part-bounds-choice-place g t c = let e = length-AllZip IsIn c.args.choice.now c.args.may.now c.requires.choice in omega (arith, e, c.requires.place)

pub cover_part-has-requires : goal.cover_part-has-requires
cover_part-has-requires g t c =
    let b = chosen_below c.args.strength.now.labels c.args.choice.now c.args.may.now c.args.place c.requires.sets c.requires.choice c.requires.place in
    omega (arith, b.1, c.args.strength.now.few)

pub cover_part-returns-then-has-clause-covered : goal.cover_part-returns-then-has-clause-covered
cover_part-returns-then-has-clause-covered g t c =
    let label = get_or c.args.choice.now c.args.place 0 in
    let ups = ups_in c.args.strength.now.ups.items in
    let held : c.index-must-place.result ≡ set_at c.args.must.now c.args.place =
    c.index-must-place.is ∙ read_within c.args.must.now c.args.place c.index-must-place.result [] (let e = c.requires.must in let f = c.requires.may in omega (arith, e, f, c.requires.place)) in
    held_part c.args.constraint.now ups (g.K.Keeper.rows c.args.keeper.now) c.requires.strong.holds c.args.must.now c.args.may.now label c.args.place c.requires.place
    (subst (IsIn label) held (has-IsIn c.index-must-place.result label (sym c.has.ensures ∙ c.if-has.true)))

pub cover_part-without-set-requires-clause-label : goal.cover_part-without-set-requires-clause-label
cover_part-without-set-requires-clause-label g t c =
    (chosen_below c.args.strength.now.labels c.args.choice.now c.args.may.now c.args.place c.requires.sets c.requires.choice c.requires.place).1

pub cover_part-returns-then-is_empty-clause-covered : goal.cover_part-returns-then-is_empty-clause-covered
cover_part-returns-then-is_empty-clause-covered g t c =
    let label = get_or c.args.choice.now c.args.place 0 in
    let ups = ups_in c.args.strength.now.ups.items in
    let mine : c.index-may-place.result ≡ set_at c.args.may.now c.args.place = c.index-may-place.is ∙ read_within c.args.may.now c.args.place c.index-may-place.result [] c.requires.place in
    let left : c.without-set.result ≡ filter (λ z. not (has (ups z) label)) (set_at c.args.may.now c.args.place) = c.without-set.ensures ∙ ap (filter (λ z. not (has (ups z) label))) mine in
    empty_part c.args.constraint.now ups (g.K.Keeper.rows c.args.keeper.now) c.args.must.now c.args.may.now label c.args.place c.requires.place c.requires.may
    (sym left ∙ empty_set c.without-set.result (eqb-true (length c.without-set.result) 0 (sym c.is_empty.ensures ∙ c.if-is_empty.true)))

pub cover_part-sees_dominated-requires : goal.cover_part-sees_dominated-requires
cover_part-sees_dominated-requires g t c =
    let label = get_or c.args.choice.now c.args.place 0 in
    let ups = ups_in c.args.strength.now.ups.items in
    let mine : c.index-may-place.result ≡ set_at c.args.may.now c.args.place = c.index-may-place.is ∙ read_within c.args.may.now c.args.place c.index-may-place.result [] c.requires.place in
    let left : c.without-set.result ≡ filter (λ z. not (has (ups z) label)) (set_at c.args.may.now c.args.place) = c.without-set.ensures ∙ ap (filter (λ z. not (has (ups z) label))) mine in
    let smaller : c.as_slice-part.result.now ≡ left_out ups label c.args.place c.args.may.now = c.as_slice-part.ensures.value ∙ c.with_set-smaller.ensures ∙ ap (slice_set c.args.may.now c.args.place) left in
    let b = chosen_below c.args.strength.now.labels c.args.choice.now c.args.may.now c.args.place c.requires.sets c.requires.choice c.requires.place in
    let less = left_out_lighter ups c.requires.strong.holds label c.args.place c.args.may.now c.requires.place b.0 in
    let some : 0 < length c.without-set.result = (let n : eqb (length c.without-set.result) 0 ≡ false = sym c.is_empty.ensures ∙ c.if-is_empty.false in grind (arith, nat_tests)) in
    let count : length c.as_slice-part.result.now ≡ c.args.constraint.now.degree = ap length smaller ∙ length-slice_set c.args.may.now c.args.place _ ∙ c.requires.may in
    omega (arith, count, c.degree-degree.ensures.constraint.most)

pub cover_part-returns-then-sees_dominated-clause-covered : goal.cover_part-returns-then-sees_dominated-clause-covered
cover_part-returns-then-sees_dominated-clause-covered g t c =
    let label = get_or c.args.choice.now c.args.place 0 in
    let ups = ups_in c.args.strength.now.ups.items in
    let mine : c.index-may-place.result ≡ set_at c.args.may.now c.args.place = c.index-may-place.is ∙ read_within c.args.may.now c.args.place c.index-may-place.result [] c.requires.place in
    let left : c.without-set.result ≡ filter (λ z. not (has (ups z) label)) (set_at c.args.may.now c.args.place) = c.without-set.ensures ∙ ap (filter (λ z. not (has (ups z) label))) mine in
    let smaller : c.as_slice-part.result.now ≡ left_out ups label c.args.place c.args.may.now = c.as_slice-part.ensures.value ∙ c.with_set-smaller.ensures ∙ ap (slice_set c.args.may.now c.args.place) left in
    let b = chosen_below c.args.strength.now.labels c.args.choice.now c.args.may.now c.args.place c.requires.sets c.requires.choice c.requires.place in
    let less = left_out_lighter ups c.requires.strong.holds label c.args.place c.args.may.now c.requires.place b.0 in
    let some : 0 < length c.without-set.result = (let n : eqb (length c.without-set.result) 0 ≡ false = sym c.is_empty.ensures ∙ c.if-is_empty.false in grind (arith, nat_tests)) in
    subst (IsCovered c.args.constraint.now ups (g.K.Keeper.rows c.args.keeper.now) c.args.must.now) smaller
    (covered_by_row c.args.constraint.now ups (g.K.Keeper.rows c.args.keeper.now) c.args.must.now c.as_slice-part.result.now
    (c.sees_dominated.ensures c.if-sees_dominated.true))

pub cover_part-cover-requires : goal.cover_part-cover-requires
cover_part-cover-requires g t c κs within =
    let label = get_or c.args.choice.now c.args.place 0 in
    let ups = ups_in c.args.strength.now.ups.items in
    let mine : c.index-may-place.result ≡ set_at c.args.may.now c.args.place = c.index-may-place.is ∙ read_within c.args.may.now c.args.place c.index-may-place.result [] c.requires.place in
    let left : c.without-set.result ≡ filter (λ z. not (has (ups z) label)) (set_at c.args.may.now c.args.place) = c.without-set.ensures ∙ ap (filter (λ z. not (has (ups z) label))) mine in
    let smaller : c.as_slice-part.result.now ≡ left_out ups label c.args.place c.args.may.now = c.as_slice-part.ensures.value ∙ c.with_set-smaller.ensures ∙ ap (slice_set c.args.may.now c.args.place) left in
    let b = chosen_below c.args.strength.now.labels c.args.choice.now c.args.may.now c.args.place c.requires.sets c.requires.choice c.requires.place in
    let less = left_out_lighter ups c.requires.strong.holds label c.args.place c.args.may.now c.requires.place b.0 in
    let some : 0 < length c.without-set.result = (let n : eqb (length c.without-set.result) 0 ≡ false = sym c.is_empty.ensures ∙ c.if-is_empty.false in grind (arith, nat_tests)) in (
      omega (arith, c.decreases, less, ap weight smaller),
      (
        within.0,
        (
          within.1,
          (
            c.requires.strong,
            (
              c.requires.serves,
              (
                c.requires.must,
                (
                  ap length smaller ∙ length-slice_set c.args.may.now c.args.place _ ∙ c.requires.may,
                  subst (AreSets c.args.strength.now.labels) (sym smaller) (left_out_sets c.args.strength.now.labels ups label c.args.place c.args.may.now c.without-set.result left some c.requires.place c.requires.sets),
                ),
              ),
            ),
          ),
        ),
      ),
    )

pub cover_choice-first_place-place-requires-clause-sets : goal.cover_choice-first_place-place-requires-clause-sets
cover_choice-first_place-place-requires-clause-sets g t c =
    label_sets_more c.args.strength.now.labels MAX_LABELS c.args.strength.now.few c.args.may.now (AllByRecursion-weaker _ (IsLabelSet c.args.strength.now.labels) (λ s a. a.0) c.args.may.now c.requires.sets)

pub cover_choice-bounds-choice-place : goal.cover_choice-bounds-choice-place
cover_choice-bounds-choice-place g t c =
    let inside : c.first_place-place.result < length c.args.may.now = (let h = c.if-place-may.false in omega arith) in
    let e = length-AllZip IsIn c.args.choice.now c.args.may.now c.requires.choice in
    omega (arith, e, inside)

pub cover_choice-up-requires : goal.cover_choice-up-requires
cover_choice-up-requires g t c =
    let inside : c.first_place-place.result < length c.args.may.now = (let h = c.if-place-may.false in omega arith) in
    (chosen_below c.args.strength.now.labels c.args.choice.now c.args.may.now c.first_place-place.result c.requires.sets c.requires.choice inside).1

pub cover_choice-none_lacks-requires-clause-sets : goal.cover_choice-none_lacks-requires-clause-sets
cover_choice-none_lacks-requires-clause-sets g t c =
    label_sets_more c.args.strength.now.labels MAX_LABELS c.args.strength.now.few c.args.may.now (AllByRecursion-weaker _ (IsLabelSet c.args.strength.now.labels) (λ s a. a.0) c.args.may.now c.requires.sets)

pub cover_choice-returns-then-none_lacks-clause-covered : goal.cover_choice-returns-then-none_lacks-clause-covered
cover_choice-returns-then-none_lacks-clause-covered g t c =
    let place = c.first_place-place.result in
    let label = get_or c.args.choice.now place 0 in
    let ups = ups_in c.args.strength.now.ups.items in
    let inside : place < length c.args.may.now = (let h = c.if-place-may.false in omega arith) in
    let held : c.index-must-place.result ≡ set_at c.args.must.now place =
    c.index-must-place.is ∙ read_within c.args.must.now place c.index-must-place.result [] (let e = c.requires.must in let f = c.requires.may in omega (arith, e, f, inside)) in
    let more : c.as_slice-held.result.now ≡ slice_set c.args.must.now place (union (set_at c.args.must.now place) (ups label)) =
    c.as_slice-held.ensures.value ∙ c.with_set-more.ensures ∙ (λ i. slice_set c.args.must.now place (c.union.ensures i)) ∙ (λ i. slice_set c.args.must.now place (union (held i) (c.up.ensures.up i))) in
    place_first c.args.constraint.now ups (g.K.Keeper.rows c.cover_part.new.keeper) c.args.must.now c.args.may.now c.as_slice-held.result.now c.args.choice.now place inside more c.in_ok-cover_part.ensures.covered
    (c.none_lacks.ensures c.if-none_lacks.true ups (g.K.Keeper.rows c.cover_part.new.keeper))

pub cover_choice-returns-clause-covered : goal.cover_choice-returns-clause-covered
cover_choice-returns-clause-covered g t c =
    let place = c.first_place-place.result in
    let label = get_or c.args.choice.now place 0 in
    let ups = ups_in c.args.strength.now.ups.items in
    let inside : place < length c.args.may.now = (let h = c.if-place-may.false in omega arith) in
    let held : c.index-must-place.result ≡ set_at c.args.must.now place =
    c.index-must-place.is ∙ read_within c.args.must.now place c.index-must-place.result [] (let e = c.requires.must in let f = c.requires.may in omega (arith, e, f, inside)) in
    let more : c.as_slice-held.result.now ≡ slice_set c.args.must.now place (union (set_at c.args.must.now place) (ups label)) =
    c.as_slice-held.ensures.value ∙ c.with_set-more.ensures ∙ (λ i. slice_set c.args.must.now place (c.union.ensures i)) ∙ (λ i. slice_set c.args.must.now place (union (held i) (c.up.ensures.up i))) in
    on_ok_weaker c.cover_parts-2.result (λ rest. place_first c.args.constraint.now ups (g.K.Keeper.rows c.cover_parts-2.new.keeper) c.args.must.now c.args.may.now c.as_slice-held.result.now c.args.choice.now place inside more
    (covered_more c.args.constraint.now ups (g.K.Keeper.rows c.cover_part.new.keeper) (g.K.Keeper.rows c.cover_parts-2.new.keeper) (longer_has (g.K.Keeper.rows c.cover_part.new.keeper) (g.K.Keeper.rows c.cover_parts-2.new.keeper) c.cover_parts-2.ensures.longer)
    c.args.must.now (left_out ups label place c.args.may.now) c.in_ok-cover_part.ensures.covered)
    rest) c.cover_parts-2.ensures.covered

pub cover_parts-returns-then-place-may-clause-covered : goal.cover_parts-returns-then-place-may-clause-covered
cover_parts-returns-then-place-may-clause-covered g t c =
    no_part c.args.constraint.now (ups_in c.args.strength.now.ups.items) (g.K.Keeper.rows c.args.keeper.now) c.args.must.now c.args.may.now c.args.choice.now c.args.place
    (let e = length-AllZip IsIn c.args.choice.now c.args.may.now c.requires.choice in let h = c.if-place-may.true in omega (arith, e, h))

pub cover_parts-bounds-choice-place : goal.cover_parts-bounds-choice-place
cover_parts-bounds-choice-place g t c =
    let inside : c.args.place < length c.args.may.now = (let most = c.requires.place in let ne = c.if-place-may.false in omega (arith, most, ne)) in
    let e = length-AllZip IsIn c.args.choice.now c.args.may.now c.requires.choice in
    omega (arith, e, inside)

pub cover_parts-bounds-choice-place-2 : goal.cover_parts-bounds-choice-place-2
cover_parts-bounds-choice-place-2 g t c =
    let inside : c.args.place < length c.args.may.now = (let most = c.requires.place in let ne = c.if-place-may.false in omega (arith, most, ne)) in
    let e = length-AllZip IsIn c.args.choice.now c.args.may.now c.requires.choice in
    omega (arith, e, inside)

pub cover_parts-has-requires : goal.cover_parts-has-requires
cover_parts-has-requires g t c =
    let inside : c.args.place < length c.args.may.now = (let most = c.requires.place in let ne = c.if-place-may.false in omega (arith, most, ne)) in
    let b = chosen_below c.args.strength.now.labels c.args.choice.now c.args.may.now c.args.place c.requires.sets c.requires.choice inside in
    omega (arith, b.1, c.args.strength.now.few)

pub cover_parts-returns-then-has-clause-covered : goal.cover_parts-returns-then-has-clause-covered
cover_parts-returns-then-has-clause-covered g t c =
    let label = get_or c.args.choice.now c.args.place 0 in
    let inside : c.args.place < length c.args.may.now = (let most = c.requires.place in let ne = c.if-place-may.false in omega (arith, most, ne)) in
    let held : c.index-must-place.result ≡ set_at c.args.must.now c.args.place =
    c.index-must-place.is ∙ read_within c.args.must.now c.args.place c.index-must-place.result [] (let e = c.requires.must in let f = c.requires.may in omega (arith, e, f, inside)) in
    on_ok_weaker c.cover_parts.result (λ rest. held_place c.args.constraint.now (ups_in c.args.strength.now.ups.items) (g.K.Keeper.rows c.cover_parts.new.keeper) c.args.must.now c.args.may.now c.args.choice.now c.args.place
    (subst (IsIn label) held (has-IsIn c.index-must-place.result label (sym c.has.ensures ∙ c.if-has.true)))
    rest) c.cover_parts.ensures.covered

pub cover_parts-up-requires : goal.cover_parts-up-requires
cover_parts-up-requires g t c =
    let inside : c.args.place < length c.args.may.now = (let most = c.requires.place in let ne = c.if-place-may.false in omega (arith, most, ne)) in
    (chosen_below c.args.strength.now.labels c.args.choice.now c.args.may.now c.args.place c.requires.sets c.requires.choice inside).1

pub cover_parts-returns-clause-covered : goal.cover_parts-returns-clause-covered
cover_parts-returns-clause-covered g t c =
    let label = get_or c.args.choice.now c.args.place 0 in
    let ups = ups_in c.args.strength.now.ups.items in
    let inside : c.args.place < length c.args.may.now = (let most = c.requires.place in let ne = c.if-place-may.false in omega (arith, most, ne)) in
    let held : c.index-must-place-2.result ≡ set_at c.args.must.now c.args.place =
    c.index-must-place-2.is ∙ read_within c.args.must.now c.args.place c.index-must-place-2.result [] (let e = c.requires.must in let f = c.requires.may in omega (arith, e, f, inside)) in
    let more : c.as_slice.result.now ≡ slice_set c.args.must.now c.args.place (union (set_at c.args.must.now c.args.place) (ups label)) =
    c.as_slice.ensures.value ∙ c.with_set-more.ensures ∙ (λ i. slice_set c.args.must.now c.args.place (c.union.ensures i)) ∙ (λ i. slice_set c.args.must.now c.args.place (union (held i) (c.up.ensures.up i))) in
    on_ok_weaker c.cover_parts-2.result (λ rest. next_part c.args.constraint.now ups (g.K.Keeper.rows c.cover_parts-2.new.keeper) c.args.must.now c.args.may.now c.as_slice.result.now c.args.choice.now c.args.place
    (length-AllZip IsIn c.args.choice.now c.args.may.now c.requires.choice) more
    (covered_more c.args.constraint.now ups (g.K.Keeper.rows c.cover_part.new.keeper) (g.K.Keeper.rows c.cover_parts-2.new.keeper) (longer_has (g.K.Keeper.rows c.cover_part.new.keeper) (g.K.Keeper.rows c.cover_parts-2.new.keeper) c.cover_parts-2.ensures.longer)
    c.args.must.now (left_out ups label c.args.place c.args.may.now) c.in_ok-cover_part.ensures.covered)
    rest) c.cover_parts-2.ensures.covered
