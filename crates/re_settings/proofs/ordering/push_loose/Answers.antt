use Rattle.std.proofs.Common.{[], ◌∷◌, ◌++◌, ◌∙◌, ap, sym}
use Rattle.re_settings.proofs.Answering.{loose-more, loose-same}
use Rattle.re_settings.proofs.ordering.push_loose.Goals as goal
use Rattle.re_settings.proofs.ordering.push_loose.Goals.{else-not-has, then-not-has+in_ok-push}

pub loop-label-preserved : goal.loop-label-preserved
loop-label-preserved c = elim c.if-not-has.branch [
  | then-not-has+in_ok-push w ↦ loose-more c.args.constraint.now c.loop-label.label c.labels-held.result c.args.places.now.items (c.labels-held.ensures c.loop-label.label) (sym c.has.ensures ∙ w.if-not-has.true)
      ((λ i. (w.places-is i).items) ∙ w.in_ok-push.ensures.items ∙ ap (λ s. c.loop-label.places.items ++ s ∷ []) w.single.ensures) c.loop-label.invariant
  | else-not-has w ↦ loose-same c.args.constraint.now c.loop-label.label c.labels-held.result c.args.places.now.items (c.labels-held.ensures c.loop-label.label) (sym c.has.ensures ∙ w.if-not-has.false)
      ((λ i. (w.places-is i).items) ∙ c.loop-label.invariant)
]
