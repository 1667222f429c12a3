use Rattle.std.proofs.Common.{ap, ◌∙◌}
use Rattle.re_labels.specs.Sets.{with_label}
use Rattle.re_labels.proofs.Strengths.{with_label-below}
use Rattle.re_labels.proofs.strength.labels_below.Goals as goal

pub loop-label-preserved : goal.loop-label-preserved
loop-label-preserved c =
    c.insert-all.ensures ∙ ap (λ s. with_label s c.loop-label.label) c.loop-label.invariant ∙ with_label-below c.loop-label.label
