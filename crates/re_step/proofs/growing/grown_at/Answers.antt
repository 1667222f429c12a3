use Rattle.std.proofs.Common.{◌≡◌, ◌∙◌, ap, subst, arith, length, get_or, []}
use Rattle.std.specs.Prelude.{slice_set}
use Rattle.re_labels.proofs.Patterns.{others-are, parted}
use Rattle.re_labels.proofs.RowCalls.{read_within}
use Rattle.re_labels.specs.Rows.{set_at}
use Rattle.re_labels.specs.Sets.{IsIn, union}
use Rattle.re_boxes.specs.HeldStrength.{ups_in}
use Rattle.re_step.proofs.Adding.{others_tell, others_told, outside_below, outside_held, united_grown, united_tried}
use Rattle.re_step.proofs.growing.grown_at.Goals as goal

pub addable-added-requires-clause-among : goal.addable-added-requires-clause-among
addable-added-requires-clause-among c = outside_below c.args.strength.now.labels c.outside-left.result c.outside-left.ensures.above

pub returns-clause-grown : goal.returns-clause-grown
returns-clause-grown c =
    let sets = c.args.sets.items in
    let i = c.args.place in
    let set : c.index-deref-place.result ≡ set_at c.args.sets.items c.args.place = c.index-deref-place.is ∙ read_within c.deref.result.now c.args.place c.index-deref-place.result []
    (omega (arith, ap length c.deref.ensures.0, c.requires.place)) ∙ ap (λ l. get_or l c.args.place []) c.deref.ensures.0 in
    let more = c.with_set.ensures ∙ (λ j. slice_set (c.as_slice-3.ensures.value j) c.args.place (c.union.ensures j)) ∙ ap (λ s. slice_set c.args.sets.items c.args.place (union s c.addable-added.result)) set in
    let whole = parted c.as_slice-2.result.now _ c.first-item.result c.in-len1-up.len_at_least c.first-item.is (others-are c.as_slice-2.result.now) in
    united_grown c.args.constraint.now c.args.strength.now.labels c.args.sets.items c.args.place c.requires.place c.addable-added.result c.with_set.result.items more c.requires.good c.requires.sets
    (λ x h. let told = (c.addable-added.ensures.addable x).0 h in (
      outside_below c.args.strength.now.labels c.outside-left.result c.outside-left.ensures.above x told.0,
      others_tell c.args.constraint.now (ups_in c.args.strength.now.ups.items) c.requires.strong c.weakest_sets-others.result.items c.as_slice.result.now c.args.sets.items c.as_slice.ensures.value
          c.weakest_sets-others.ensures.weakest c.args.place c.requires.place _ (whole ∙ c.as_slice-2.ensures.value ∙ c.remove-weakest.ensures.items) x told.1,
    ))

pub returns-clause-tried : goal.returns-clause-tried
returns-clause-tried c =
    let set : c.index-deref-place.result ≡ set_at c.args.sets.items c.args.place = c.index-deref-place.is ∙ read_within c.deref.result.now c.args.place c.index-deref-place.result []
    (omega (arith, ap length c.deref.ensures.0, c.requires.place)) ∙ ap (λ l. get_or l c.args.place []) c.deref.ensures.0 in
    let more = c.with_set.ensures ∙ (λ j. slice_set (c.as_slice-3.ensures.value j) c.args.place (c.union.ensures j)) ∙ ap (λ s. slice_set c.args.sets.items c.args.place (union s c.addable-added.result)) set in
    let whole = parted c.as_slice-2.result.now _ c.first-item.result c.in-len1-up.len_at_least c.first-item.is (others-are c.as_slice-2.result.now) in
    united_tried c.args.constraint.now c.args.strength.now.labels c.args.sets.items c.args.place c.requires.place c.addable-added.result c.with_set.result.items more
    (λ x below never good. (c.addable-added.ensures.addable x).1 (
      outside_held c.args.strength.now.labels c.outside-left.result c.index-deref-place.result c.outside-left.ensures.below x below (λ h. never (subst (IsIn x) set h)),
      others_told c.args.constraint.now (ups_in c.args.strength.now.ups.items) c.requires.strong c.weakest_sets-others.result.items c.as_slice.result.now c.args.sets.items c.as_slice.ensures.value
          c.weakest_sets-others.ensures.weakest c.args.place c.requires.place _ (whole ∙ c.as_slice-2.ensures.value ∙ c.remove-weakest.ensures.items) x good,
    ))
