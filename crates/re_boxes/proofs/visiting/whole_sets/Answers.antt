use Rattle.std.proofs.Common.{◌≡◌, ◌<◌, ◌∙◌, ◌++◌, ◌∷◌, [], ap, sym, arith, lit<, length, map, refl}
use Rattle.std.proofs.lemmas.List.{map_push}
use Rattle.re_labels.proofs.OrdersAt.{count_push}
use Rattle.re_labels.proofs.Membership.{length-count_from, length-map'}
use Rattle.re_labels.specs.Lists.{count_from}
use Rattle.re_labels.specs.Sets.{with_label}
use Rattle.re_labels.proofs.Strengths.{with_label-below}
use Rattle.re_boxes.proofs.visiting.whole_sets.Goals as goal
use Rattle.re_labels.specs.declared.TheConstants.{MAX_LABELS}

pub loop-label-preserved : goal.loop-label-preserved
loop-label-preserved c =
    c.insert-all.ensures ∙ ap (λ s. with_label s c.loop-label.label) c.loop-label.invariant ∙ with_label-below c.loop-label.label

pub push-requires : goal.push-requires
push-requires c =
    let count : length c.loop-label-2.sets.items ≡ c.loop-label-2._label = ap length c.loop-label-2.invariant ∙ length-map' (λ x. count_from 0 c.args.labels) (count_from 0 c.loop-label-2._label) ∙ length-count_from 0 c.loop-label-2._label in
    let below : c.loop-label-2._label < c.args.labels = c.loop-label-2-test.true in
    (lit< tt, (let few = c.requires in let h : length c.loop-label-2.sets.items < MAX_LABELS = omega (arith, count, below, few) in h))

pub loop-label-2-preserved : goal.loop-label-2-preserved
loop-label-2-preserved c =
    let whole : c.loop-label.label ≡ c.args.labels = (let past = c.loop-label-test.false in let most = c.loop-label.auto.label-end in omega arith) in
    let all : c.loop-label.all ≡ count_from 0 c.args.labels = c.loop-label.invariant ∙ ap (count_from 0) whole in
    c.push.ensures.items ∙ (λ i. c.loop-label-2.invariant i ++ all i ∷ []) ∙ sym (map_push (λ x. count_from 0 c.args.labels) (count_from 0 c.loop-label-2._label) c.loop-label-2._label)
    ∙ ap (map (λ x. count_from 0 c.args.labels)) (count_push c.loop-label-2._label (count_from 0 c.loop-label-2._label) refl)
