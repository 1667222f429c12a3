use Rattle.std.proofs.Common.{◌∙◌, ap, length, subst, sym}
use Rattle.std.specs.List.{AllByRecursion}
use Rattle.re_labels.specs.Sets.{IsLabelSet}
use Rattle.re_texts.proofs.FittingImages.{text_fits}
use Rattle.re_texts.specs.declared.entries.MapKind.TheVariants.{Sets}
use Rattle.re_texts.proofs.map_texts.read_set_map.Goals as goal

pub returns-clause-images : goal.returns-clause-images
returns-clause-images c =
    let fits = text_fits Sets c.args.text.now _ c.in_ok-from.ensures in
    ap length (c.in-Some.ensures.0 ∙ c.as_slice.ensures.value) ∙ fits.count

pub returns-clause-labels : goal.returns-clause-labels
returns-clause-labels c =
    let fits = text_fits Sets c.args.text.now _ c.in_ok-from.ensures in
    subst (AllByRecursion (IsLabelSet (length c.in_ok-from.field-0.from.names))) (sym (c.in-Some.ensures.0 ∙ c.as_slice.ensures.value)) fits.images
