use Rattle.std.proofs.Common.{◌∙◌, ap, sym, not}
use Rattle.re_labels.specs.Sets.{has}
use Rattle.re_boxes.proofs.LabelsAbove.{passed_by, taken}
use Rattle.re_step.proofs.completing.outside.Goals as goal
use Rattle.re_step.proofs.completing.outside.Goals.{then-not-has, else-not-has}

pub loop-label-preserved : goal.loop-label-preserved
loop-label-preserved c =
    let label = c.loop-label.label in
    elim c.if-not-has.branch [
      | then-not-has w ↦
          let two = taken (λ z. not (has c.args.set z)) c.loop-label.left label c.loop-label.invariant.before c.loop-label.invariant.behind c.if-not-has.left
          (w.left-is ∙ w.insert-left.ensures) (ap not (sym c.has.ensures ∙ w.if-not-has.true)) in
          record { before = two.0; behind = two.1 }
      | else-not-has w ↦
          let two = passed_by (λ z. not (has c.args.set z)) c.loop-label.left label c.loop-label.invariant.before c.loop-label.invariant.behind c.if-not-has.left
          w.left-is (ap not (sym c.has.ensures ∙ w.if-not-has.false)) in
          record { before = two.0; behind = two.1 }
    ]
