use Rattle.std.proofs.Common.{get_or, sym, ap, ◌∙◌, take}
use Rattle.std.proofs.lemmas.List.{take_more}
use Rattle.re_labels.proofs.Replacing.{support_of-push}
use Rattle.re_labels.specs.Configs.{support_of}
use Rattle.re_labels.specs.Sets.{with_label}
use Rattle.re_bridge.proofs.mapping.image_set.Goals as goal

pub loop-image-preserved : goal.loop-image-preserved
loop-image-preserved c =
    let items = c.args.images.now in
    let i = c.loop-image.image-index in
    c.insert-set.ensures ∙ ap (λ s. with_label s (get_or items i 0)) c.loop-image.invariant ∙ sym (support_of-push (take i items) (get_or items i 0))
    ∙ ap support_of (sym (take_more items i 0 c.loop-image-test.true))
