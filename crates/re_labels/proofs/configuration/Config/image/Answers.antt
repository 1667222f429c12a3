use Rattle.std.proofs.Common.{◌<◌, ◌≡◌, map, sym, ap, ◌∙◌, subst}
use Rattle.std.specs.List.{AllByRecursion}
use Rattle.std.proofs.lemmas.List.{take_all}
use Rattle.re_labels.proofs.Replacing.{AllByRecursion-image_at}
use Rattle.re_labels.specs.Configs.{image_at}
use Rattle.re_labels.proofs.configuration.Config.image.Goals as goal
use Rattle.re_labels.specs.declared.TheConstants.{MAX_LABELS}

pub from_labels-requires-clause-below : goal.from_labels-requires-clause-below
from_labels-requires-clause-below c =
    let all : c.as_slice.result.now ≡ map (image_at c.args.images.now) c.args.self.now =
    c.as_slice.ensures.value ∙ c.loop-label.invariant.images
    ∙ ap (map (image_at c.args.images.now)) (take_all c.loop-label.label-index c.labels-label-items.result.now c.loop-label-test.false ∙ c.labels-label-items.ensures.labels) in
    subst (AllByRecursion (λ x. x < MAX_LABELS)) (sym all) (AllByRecursion-image_at c.args.images.now c.args.self.now MAX_LABELS c.requires.below c.requires.known)
