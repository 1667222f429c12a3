use Rattle.std.proofs.Common.{ap, ◌∙◌, ◌++◌, ◌∷◌, []}
use Rattle.re_labels.proofs.set_row.combined_sets.Goals as goal
use Rattle.re_labels.proofs.set_row.combined_sets.Goals.{then-i-place, else-i-place}
use Rattle.re_labels.proofs.Placing.{all_done, next_meet, next_union}

pub loop-i-preserved : goal.loop-i-preserved
loop-i-preserved c = elim c.if-i-place.branch [
  | then-i-place w ↦ next_union c.args.place c.args.sets.now c.args.others.now c.args.order.now c.loop-i.i c.index-sets-i.result c.set_at-other.result c.loop-i-test.true c.requires.alike c.index-sets-i.is c.set_at-other.ensures
      c.loop-i.done.items c.if-i-place.done.items w.if-i-place.true c.loop-i.invariant
      (ap (λ v. v.items) w.done-is ∙ w.push.ensures.items ∙ ap (λ s. c.loop-i.done.items ++ s ∷ []) w.union.ensures)
  | else-i-place w ↦ next_meet c.args.place c.args.sets.now c.args.others.now c.args.order.now c.loop-i.i c.index-sets-i.result c.set_at-other.result c.loop-i-test.true c.requires.alike c.index-sets-i.is c.set_at-other.ensures
      c.loop-i.done.items c.if-i-place.done.items w.if-i-place.false c.loop-i.invariant
      (ap (λ v. v.items) w.done-is ∙ w.push-else-i-place.ensures.items ∙ ap (λ s. c.loop-i.done.items ++ s ∷ []) w.meet.ensures)
]

pub returns : goal.returns
returns c = all_done c.args.place c.args.sets.now c.args.others.now c.args.order.now c.loop-i.i c.loop-i.done.items c.requires.alike c.loop-i-test.false c.loop-i.invariant
