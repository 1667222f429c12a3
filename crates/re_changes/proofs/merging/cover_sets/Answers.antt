use Rattle.std.proofs.Common.{◌≡◌, ◌<◌, ap, arith, length, lit<, ◌∙◌}
use Rattle.re_labels.specs.Sets.{meet}
use Rattle.re_labels.specs.Strength.{up_set}
use Rattle.re_changes.proofs.Counted.{length-map_counted, pushed}
use Rattle.re_changes.proofs.Alike.{read-counted}
use Rattle.re_changes.proofs.merging.cover_sets.Goals as goal
use Rattle.re_labels.specs.declared.TheConstants.{MAX_LABELS}

pub bounds-deref-label : goal.bounds-deref-label
bounds-deref-label c =
    let e = ap length (c.deref.ensures.0 ∙ c.up_sets-active.ensures) ∙ length-map_counted (λ label. up_set c.active.result.now label c.len-labels.result) c.len-labels.result in
    let below = c.loop-label-test.true in omega (arith, e, below)

pub bounds-deref-label-in-loop-label : goal.bounds-deref-label-in-loop-label
bounds-deref-label-in-loop-label c =
    let e = ap length (c.deref-in-loop-label.ensures.0 ∙ c.up_sets-passive.ensures) ∙ length-map_counted (λ label. up_set c.passive.result.now label c.len-labels.result) c.len-labels.result in
    let below = c.loop-label-test.true in omega (arith, e, below)

pub push-requires : goal.push-requires
push-requires c = (
  lit< tt,
  (let e = ap length c.loop-label.invariant ∙ length-map_counted (λ label. meet (up_set c.args.problem.now.active label (length c.args.problem.now.names)) (up_set c.args.problem.now.passive label (length c.args.problem.now.names))) c.loop-label.label in
      let few = c.len-labels.ensures.names.few in let n = c.len-labels.ensures.len in let below = c.loop-label-test.true in
      let h : length c.loop-label.covers.items < MAX_LABELS = omega (arith, e) in h),
)

pub loop-label-preserved : goal.loop-label-preserved
loop-label-preserved c =
    pushed (λ label. meet (up_set c.args.problem.now.active label (length c.args.problem.now.names)) (up_set c.args.problem.now.passive label (length c.args.problem.now.names)))
    c.loop-label.label c.meet.result c.push.ensures.items c.loop-label.invariant
    (let n : c.len-labels.result ≡ length c.args.problem.now.names = c.len-labels.ensures.len ∙ ap length c.names.ensures.names in
    let active : c.index-deref-label.result ≡ up_set c.args.problem.now.active c.loop-label.label (length c.args.problem.now.names) =
    read-counted (λ label. up_set c.active.result.now label c.len-labels.result) c.len-labels.result c.loop-label.label c.deref.result.now c.index-deref-label.result
    (c.deref.ensures.0 ∙ c.up_sets-active.ensures) c.loop-label-test.true c.index-deref-label.is ∙ (λ i. up_set (c.active.ensures.active i) c.loop-label.label (n i)) in
    let passive : c.index-deref-label-in-loop-label.result ≡ up_set c.args.problem.now.passive c.loop-label.label (length c.args.problem.now.names) =
    read-counted (λ label. up_set c.passive.result.now label c.len-labels.result) c.len-labels.result c.loop-label.label c.deref-in-loop-label.result.now c.index-deref-label-in-loop-label.result
    (c.deref-in-loop-label.ensures.0 ∙ c.up_sets-passive.ensures) c.loop-label-test.true c.index-deref-label-in-loop-label.is ∙ (λ i. up_set (c.passive.ensures.passive i) c.loop-label.label (n i)) in
    c.meet.ensures ∙ (λ i. meet (active i) (passive i)))
