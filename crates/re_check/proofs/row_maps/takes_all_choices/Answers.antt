use Rattle.std.proofs.Common.{arith, get_or, [], sym, subst, Contains}
use Rattle.re_check.proofs.AllowedImages.{TakesChoices, given-sets, over-there, takes-given}
use Rattle.re_check.proofs.RowChoices.{image-labels}
use Rattle.re_check.specs.RowEntries.{image_entries}
use Rattle.re_check.proofs.Telling.{read-held, tells-false, told, walk-done}
use Rattle.std.proofs.Common.{below_more, refl}
use Rattle.re_check.proofs.row_maps.takes_all_choices.Goals as goal
use Rattle.re_labels.proofs.Tests.{not_told}

pub has_all_choices-requires-clause-sets : goal.has_all_choices-requires-clause-sets
has_all_choices-requires-clause-sets c =
    given-sets (image_entries c.args.rows.now c.args.images.now) c.in-Some.config.now c.as_slice.result.now (image-labels c.args.rows.now c.args.images.now c.requires.images)
    (over-there c.args.from.now (image_entries c.args.rows.now c.args.images.now) c.all_labels_over-over.result c.sets_at-sets.result.items c.as_slice.result.now c.loop-place.place c.in-Some.config.now c.len-place-end.ensures.constraint (omega (arith, c.len-place-end.ensures.len, c.loop-place-test.true))
    c.in-Some.ensures.config c.all_labels_over-over.ensures c.sets_at-sets.ensures c.as_slice.ensures.value)

pub returns-then-not-has_all_choices : goal.returns-then-not-has_all_choices
returns-then-not-has_all_choices c = tells-false _ refl (λ kept.
    not_told c.has_all_choices.result
    (takes-given (image_entries c.args.rows.now c.args.images.now) c.args.to.now c.in-Some.config.now c.as_slice.result.now c.has_all_choices.result
    (over-there c.args.from.now (image_entries c.args.rows.now c.args.images.now) c.all_labels_over-over.result c.sets_at-sets.result.items c.as_slice.result.now c.loop-place.place c.in-Some.config.now c.len-place-end.ensures.constraint (omega (arith, c.len-place-end.ensures.len, c.loop-place-test.true))
    c.in-Some.ensures.config c.all_labels_over-over.ensures c.sets_at-sets.ensures c.as_slice.ensures.value)
    c.has_all_choices.ensures)
    c.if-not-has_all_choices.true
    (kept c.in-Some.config.now
    (subst (Contains c.args.from.now.configs) (sym c.in-Some.ensures.config) (read-held c.args.from.now.configs c.loop-place.place [] (omega (arith, c.len-place-end.ensures.len, c.loop-place-test.true))))))

pub loop-place-preserved : goal.loop-place-preserved
loop-place-preserved c =
    below_more (λ k. TakesChoices (image_entries c.args.rows.now c.args.images.now) c.args.to.now (get_or c.args.from.now.configs k [])) c.loop-place.place c.loop-place.invariant
    (subst (TakesChoices (image_entries c.args.rows.now c.args.images.now) c.args.to.now) c.in-Some.ensures.config
    (told c.has_all_choices.result
    (takes-given (image_entries c.args.rows.now c.args.images.now) c.args.to.now c.in-Some.config.now c.as_slice.result.now c.has_all_choices.result
    (over-there c.args.from.now (image_entries c.args.rows.now c.args.images.now) c.all_labels_over-over.result c.sets_at-sets.result.items c.as_slice.result.now c.loop-place.place c.in-Some.config.now c.len-place-end.ensures.constraint (omega (arith, c.len-place-end.ensures.len, c.loop-place-test.true))
    c.in-Some.ensures.config c.all_labels_over-over.ensures c.sets_at-sets.ensures c.as_slice.ensures.value)
    c.has_all_choices.ensures)
    c.if-not-has_all_choices.false))

pub returns : goal.returns
returns c =
    walk-done (TakesChoices (image_entries c.args.rows.now c.args.images.now) c.args.to.now) c.args.from.now.configs [] c.loop-place.place (omega (arith, c.len-place-end.ensures.len, c.loop-place-test.false)) c.loop-place.invariant
    (λ each. each)
