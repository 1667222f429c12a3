use Rattle.std.proofs.Common.{not, ◌&&◌, map, sym, ap, ◌∙◌}
use Rattle.re_labels.specs.Configs.{image_at}
use Rattle.re_labels.proofs.SaidChoices.{found-is}
use Rattle.re_labels.specs.Constraints.{has_config}
use Rattle.re_search.proofs.Losses.{mapped-below}
use Rattle.re_search.specs.Losses.{are_mapped}
use Rattle.re_search.proofs.losing.is_lost.Goals as goal

pub image-requires-clause-known : goal.image-requires-clause-known
image-requires-clause-known c =
    mapped-below c.args.images.now c.args.config.now (ap (are_mapped c.args.images.now) (sym c.labels.ensures.labels) ∙ sym c.are_mapped.ensures ∙ c.if-not-are_mapped.false)

pub returns-then-not-are_mapped : goal.returns-then-not-are_mapped
returns-then-not-are_mapped c =
    sym (ap (λ b. b && not (has_config c.args.to.now (map (image_at c.args.images.now) c.args.config.now)))
    (ap (are_mapped c.args.images.now) (sym c.labels.ensures.labels) ∙ sym c.are_mapped.ensures ∙ c.if-not-are_mapped.true))

pub returns : goal.returns
returns c =
    ap not (found-is c.args.to.now (map (image_at c.args.images.now) c.args.config.now) c.image.result c.contains.result c.contains.ensures c.image.ensures)
    ∙ sym (ap (λ b. b && not (has_config c.args.to.now (map (image_at c.args.images.now) c.args.config.now)))
    (ap (are_mapped c.args.images.now) (sym c.labels.ensures.labels) ∙ sym c.are_mapped.ensures ∙ c.if-not-are_mapped.false))
