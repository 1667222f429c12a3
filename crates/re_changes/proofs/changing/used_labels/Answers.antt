use Rattle.std.proofs.Common.{◌≡◌, ◌<◌, ◌||◌, ap, arith, length, lit<, ◌∙◌, sym}
use Rattle.re_labels.proofs.Sets.{has-union}
use Rattle.re_labels.specs.Sets.{has}
use Rattle.re_problem.specs.NamedProblems.{occurs}
use Rattle.re_changes.proofs.Counted.{kept_in, left_out, length-filter_most}
use Rattle.re_changes.proofs.changing.used_labels.Goals as goal
use Rattle.re_changes.proofs.changing.used_labels.Goals.{then-has, else-has}
use Rattle.re_labels.specs.declared.TheConstants.{MAX_LABELS}

pub push-requires : goal.push-requires
push-requires c = (
  lit< tt,
  (let e = ap length c.loop-label.invariant in
      let most = length-filter_most (λ label. occurs c.args.active.now label || occurs c.args.passive.now label) 0 c.loop-label.label in
      let few = c.requires in let below = c.loop-label-test.true in let h : length c.loop-label.held.items < MAX_LABELS = omega (arith, e, most) in h),
)

pub loop-label-preserved : goal.loop-label-preserved
loop-label-preserved c =
    let test : has c.union-used.result c.loop-label.label ≡ (occurs c.args.active.now c.loop-label.label || occurs c.args.passive.now c.loop-label.label) =
    ap (λ s. has s c.loop-label.label) c.union-used.ensures ∙ has-union c.labels_in.result c.labels_in-2.result c.loop-label.label
    ∙ (λ i. c.labels_in.ensures c.loop-label.label i || c.labels_in-2.ensures c.loop-label.label i) in
    elim c.if-has.branch [
      | then-has w ↦ kept_in (λ label. occurs c.args.active.now label || occurs c.args.passive.now label) c.loop-label.label ((λ i. (w.held-is i).items) ∙ w.push.ensures.items) c.loop-label.invariant
          (sym test ∙ sym c.has.ensures ∙ w.if-has.true)
      | else-has w ↦ left_out (λ label. occurs c.args.active.now label || occurs c.args.passive.now label) c.loop-label.label (λ i. (w.held-is i).items) c.loop-label.invariant
          (sym test ∙ sym c.has.ensures ∙ w.if-has.false)
    ]
