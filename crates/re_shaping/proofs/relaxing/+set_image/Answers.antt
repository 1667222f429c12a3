use Rattle.std.proofs.Common.{ap, arith, length, subst, sym, ◌∙◌}
use Rattle.re_labels.proofs.LeastLabels.{first-is}
use Rattle.re_labels.specs.Configs.{image_at}
use Rattle.re_labels.proofs.Numbers.{IsLabelSet-filter}
use Rattle.re_labels.specs.Sets.{IsLabelSet, with_label}
use Rattle.re_shaping.proofs.ImagesOfRows.{image-grown}
use Rattle.re_shaping.proofs.relaxing.+set_image.Goals as goal

pub set_image-requires : goal.set_image-requires
set_image-requires t c =
    let whole = first-is c.args.set c.in-Some.label c.requires.set.0 (sym c.in-Some.ensures) in
    let rest : IsLabelSet (length c.args.images.now) c.remove.result = subst (IsLabelSet (length c.args.images.now)) (sym c.remove.ensures) (IsLabelSet-filter _ (length c.args.images.now) c.args.set c.requires.set) in
    (omega (arith, c.decreases, ap length c.remove.ensures, ap length whole), (rest, (c.requires.few, c.requires.below)))

pub returns-in-Some : goal.returns-in-Some
returns-in-Some t c =
    c.insert.ensures ∙ ap (λ set. with_label set (image_at c.args.images.now c.in-Some.label)) c.set_image.ensures
    ∙ image-grown (image_at c.args.images.now) c.args.set c.remove.result c.in-Some.label c.requires.set.0 (sym c.in-Some.ensures) c.remove.ensures
