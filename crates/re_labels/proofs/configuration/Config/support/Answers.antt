use Rattle.std.proofs.Common.{get_or, sym, ap, ◌∙◌, take}
use Rattle.std.proofs.lemmas.List.{take_more}
use Rattle.re_labels.proofs.Replacing.{support_of-push}
use Rattle.re_labels.specs.Configs.{support_of}
use Rattle.re_labels.specs.Sets.{with_label}
use Rattle.re_labels.proofs.configuration.Config.support.Goals as goal

pub loop-label-preserved : goal.loop-label-preserved
loop-label-preserved c =
    let items = c.labels-labels.result.now in
    let i = c.loop-label.label-index in
    c.insert-support.ensures ∙ ap (λ s. with_label s (get_or items i 0)) c.loop-label.invariant ∙ sym (support_of-push (take i items) (get_or items i 0))
    ∙ ap support_of (sym (take_more items i 0 c.loop-label-test.true))
