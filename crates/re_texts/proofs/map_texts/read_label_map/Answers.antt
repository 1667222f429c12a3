use Rattle.std.proofs.Common.{◌≡◌, ◌∷◌, ◌∙◌, [], ap, length, subst, sym}
use Rattle.std.specs.List.{AllByRecursion}
use Rattle.std.proofs.lemmas.List.{length-map}
use Rattle.re_labels.specs.Rows.{singles}
use Rattle.re_texts.proofs.FittingImages.{ImageFits, all_single, labels_fit, text_fits}
use Rattle.re_texts.specs.declared.entries.MapKind.TheVariants.{Labels}
use Rattle.re_texts.proofs.map_texts.read_label_map.Goals as goal

pub labels_of-labels-requires-clause-single : goal.labels_of-labels-requires-clause-single
labels_of-labels-requires-clause-single c =
    let fits = text_fits Labels c.args.text.now _ c.in_ok-from.ensures in
    subst (AllByRecursion (λ set. length set ≡ 1)) (sym c.as_slice.ensures.value) (all_single (length c.in_ok-from.field-0.to.names) c.in_ok-from.field-0.images.items fits.images)

pub returns-clause-images : goal.returns-clause-images
returns-clause-images c =
    let fits = text_fits Labels c.args.text.now _ c.in_ok-from.ensures in
    let same : singles c.in-Some.map ≡ c.in_ok-from.field-0.images.items = ap singles (c.in-Some.ensures.0 ∙ c.as_slice-2.ensures.value) ∙ c.labels_of-labels.ensures ∙ c.as_slice.ensures.value in
    sym (length-map c.in-Some.map (λ x. x ∷ [])) ∙ ap length same ∙ fits.count

pub returns-clause-labels : goal.returns-clause-labels
returns-clause-labels c =
    let fits = text_fits Labels c.args.text.now _ c.in_ok-from.ensures in
    let same : singles c.in-Some.map ≡ c.in_ok-from.field-0.images.items = ap singles (c.in-Some.ensures.0 ∙ c.as_slice-2.ensures.value) ∙ c.labels_of-labels.ensures ∙ c.as_slice.ensures.value in
    labels_fit (length c.in_ok-from.field-0.to.names) c.in-Some.map (subst (AllByRecursion (ImageFits Labels (length c.in_ok-from.field-0.to.names))) (sym same) fits.images)
