use Rattle.std.proofs.Common.{◌≡◌, ◌∙◌, ◌&&◌, true, ap, sym}
use Rattle.re_labels.proofs.SaidChoices.{found-is}
use Rattle.re_labels.specs.Constraints.{has_config}
use Rattle.re_settings.specs.Fits.{is_in_order}
use Rattle.re_settings.proofs.passing.is_image.Goals as goal

pub returns : goal.returns
returns c =
    let e : true ≡ is_in_order c.args.config.now c.args.labels.now
    = sym c.if-not-is_in_order.false ∙ c.is_in_order.ensures ∙ ap (λ k. is_in_order k c.args.labels.now) c.labels.ensures.labels in
    found-is c.args.active.now c.args.labels.now c.from_labels.result c.contains.result c.contains.ensures c.from_labels.ensures ∙ (λ i. e i && has_config c.args.active.now c.args.labels.now)
