use Rattle.std.proofs.Common.{◌∙◌, ◌+◌, drop}
use Rattle.re_labels.proofs.Dominating.{found, none_found, rest_missed, set_missed}
use Rattle.re_labels.proofs.domination.+hold_from.Goals as goal
use Rattle.re_labels.proofs.domination.+hold_from.Goals.{then-holds+else-rest, else-holds}

pub returns-then-rest : goal.returns-then-rest
returns-then-rest n c = found c.args.sets.now c.args.others.now c.args.places.now c.as_slice.result.now c.args.index c.loop-k.k c.set_at-other.result c.set_at.result c.within-holds.result c.hold_from-rest.result
    c.if-is_empty.ensures c.requires.alike c.set_at-other.ensures c.loop-k-test.true c.set_at.ensures c.within-holds.ensures c.if-holds.true (c.as_slice.ensures.value ∙ c.without-left.ensures) c.hold_from-rest.ensures c.if-rest.true

pub loop-k-preserved : goal.loop-k-preserved
loop-k-preserved n c = elim c.if-holds.branch [
  | then-holds+else-rest w ↦ rest_missed c.args.sets.now (drop (c.args.index + 1) c.args.others.now) c.args.places.now w.as_slice.result.now c.loop-k.k c.set_at-other.result c.set_at.result w.hold_from-rest.result
      c.loop-k-test.true (w.as_slice.ensures.value ∙ w.without-left.ensures) w.hold_from-rest.ensures w.if-rest.false c.loop-k.invariant
  | else-holds w ↦ set_missed c.args.sets.now (drop (c.args.index + 1) c.args.others.now) c.args.places.now c.loop-k.k c.set_at-other.result c.set_at.result c.within-holds.result
      c.loop-k-test.true c.set_at.ensures c.within-holds.ensures w.if-holds.false c.loop-k.invariant
]

pub returns : goal.returns
returns n c = none_found c.args.sets.now c.args.others.now c.args.places.now c.args.index c.loop-k.k c.set_at-other.result c.if-is_empty.ensures c.requires.alike c.set_at-other.ensures c.loop-k-test.false c.loop-k.invariant
