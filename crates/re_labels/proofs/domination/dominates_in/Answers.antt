use Rattle.std.proofs.Common.{◌<◌, ◌≡◌, ◌∙◌, ap, arith, length, lit<}
use Rattle.re_labels.proofs.Dominating.{all_places}
use Rattle.re_labels.specs.Lists.{count_from}
use Rattle.re_labels.proofs.OrdersAt.{count_push}
use Rattle.re_labels.proofs.Membership.{length-count_from}
use Rattle.re_labels.proofs.domination.dominates_in.Goals as goal

pub push-requires : goal.push-requires
push-requires c = (lit< tt, (let e = ap length c.loop-place.invariant ∙ length-count_from 0 c.loop-place.place in let few = c.requires.few in let below = c.loop-place-test.true in let h : length c.loop-place.places.items < 6 = omega (arith, e) in h))

pub loop-place-preserved : goal.loop-place-preserved
loop-place-preserved c = c.push.ensures.items ∙ count_push c.loop-place.place c.loop-place.places.items c.loop-place.invariant

pub hold_from-requires-clause-alike : goal.hold_from-requires-clause-alike
hold_from-requires-clause-alike c =
    let e = ap length (c.as_slice.ensures.value ∙ c.loop-place.invariant) ∙ length-count_from 0 c.loop-place.place in
    let whole : c.loop-place.place ≡ length c.args.sets.now = (let past = c.loop-place-test.false in let most = c.loop-place.auto.place-end in omega arith) in
    let alike = c.requires.alike in
    omega (arith, e, whole)

pub returns : goal.returns
returns c =
    let whole : c.loop-place.place ≡ length c.args.sets.now = (let past = c.loop-place-test.false in let most = c.loop-place.auto.place-end in omega arith) in
    all_places c.args.sets.now c.args.others.now c.as_slice.result.now c.hold_from.result (c.as_slice.ensures.value ∙ c.loop-place.invariant ∙ ap (count_from 0) whole) c.hold_from.ensures
