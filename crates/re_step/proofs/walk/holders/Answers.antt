use Rattle.re_step.proofs.WalkLemmas.{AreHolders, holder_less, holder_more, set_there}
use Rattle.re_step.proofs.walk.holders.Goals as goal
use Rattle.re_step.proofs.walk.holders.Goals.{else-has_one, then-has_one}
use Rattle.std.proofs.Common.{rules, length, ◌≡◌, arith, subst}

pub loop-place-preserved : goal.loop-place-preserved
loop-place-preserved c =
    let set = set_there c.args.sets.now c.loop-place.place c.index-sets-place.result (search rules) c.index-sets-place.is in
    elim c.if-has_one.branch [
      | then-has_one w ↦ holder_more c.args.labels c.args.sets.now c.index-sets-place.result c.args.next c.loop-place.place c.loop-place.places c.if-has_one.places c.has_one.result (search rules) set c.has_one.ensures (search rules) (search rules) c.loop-place.invariant
      | else-has_one w ↦ holder_less c.args.labels c.args.sets.now c.index-sets-place.result c.args.next c.loop-place.place c.loop-place.places c.if-has_one.places c.has_one.result set c.has_one.ensures (search rules) (search rules) c.loop-place.invariant
    ]

pub returns : goal.returns
returns c =
    let all : c.loop-place.place ≡ length c.args.sets.now = omega (arith, c.loop-place-test.false, c.loop-place.auto.place-end c.requires.places) in
    subst (λ n. AreHolders c.args.labels c.args.sets.now c.args.next n c.loop-place.places) all c.loop-place.invariant
