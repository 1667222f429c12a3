use Rattle.std.proofs.Common.{◌≡◌, ◌<◌, ap, arith, length, lit<, sym, ◌∙◌}
use Rattle.std.specs.Prelude.{filter}
use Rattle.re_labels.specs.Lists.{count_from}
use Rattle.re_labels.specs.Sets.{has}
use Rattle.re_changes.proofs.Counted.{kept_in, left_out, length-filter_most}
use Rattle.re_bridge.proofs.MapTests.{counted-set}
use Rattle.re_bridge.proofs.within.labels_of.Goals as goal
use Rattle.re_bridge.proofs.within.labels_of.Goals.{then-has, else-has}
use Rattle.re_labels.specs.declared.TheConstants.{MAX_LABELS}

pub push-requires : goal.push-requires
push-requires c = (
  lit< tt,
  (let e = ap length c.loop-label.invariant in
      let most = length-filter_most (has c.args.labels) 0 c.loop-label.label in
      let few = c.requires.count in let below = c.loop-label-test.true in let h : length c.loop-label.held.items < MAX_LABELS = omega (arith, e, most) in h),
)

pub loop-label-preserved : goal.loop-label-preserved
loop-label-preserved c = elim c.if-has.branch [
  | then-has w ↦ kept_in (has c.args.labels) c.loop-label.label ((λ i. (w.held-is i).items) ∙ w.push.ensures.items) c.loop-label.invariant (sym c.has.ensures ∙ w.if-has.true)
  | else-has w ↦ left_out (has c.args.labels) c.loop-label.label (λ i. (w.held-is i).items) c.loop-label.invariant (sym c.has.ensures ∙ w.if-has.false)
]

pub returns : goal.returns
returns c =
    c.loop-label.invariant ∙ ap (λ n. filter (has c.args.labels) (count_from 0 n)) (let e : c.loop-label.label ≡ c.args.count = omega arith in e) ∙ counted-set c.args.count c.args.labels c.requires.labels
