use Rattle.std.proofs.Common.{◌<◌, ◌==◌, ap, arith, eqb, length, lit<, sym, ◌∙◌}
use Rattle.re_labels.proofs.Tests.{eqb-apart, eqb-same}
use Rattle.re_changes.proofs.Counted.{kept_in, left_out, length-filter_most}
use Rattle.re_changes.specs.Classes.{least_equal, strong_by}
use Rattle.re_changes.proofs.classes.least_labels.Goals as goal
use Rattle.re_changes.proofs.classes.least_labels.Goals.{then-least_equal-label, else-least_equal-label}
use Rattle.re_labels.specs.declared.TheConstants.{MAX_LABELS}

pub push-requires : goal.push-requires
push-requires c = (
  lit< tt,
  (let e = ap length c.loop-label.invariant in
      let most = length-filter_most (λ a. least_equal (strong_by c.args.ups.now) (length c.args.ups.now) a == a) 0 c.loop-label.label in
      let few = c.requires in let below = c.loop-label-test.true in let h : length c.loop-label.least.items < MAX_LABELS = omega (arith, e, most) in h),
)

pub loop-label-preserved : goal.loop-label-preserved
loop-label-preserved c = elim c.if-least_equal-label.branch [
  | then-least_equal-label w ↦ kept_in (λ a. least_equal (strong_by c.args.ups.now) (length c.args.ups.now) a == a) c.loop-label.label
      ((λ i. (w.least-is i).items) ∙ w.push.ensures.items) c.loop-label.invariant
      (ap (λ x. eqb x c.loop-label.label) (sym c.least_equal.ensures ∙ w.if-least_equal-label.true) ∙ eqb-same c.loop-label.label)
  | else-least_equal-label w ↦ left_out (λ a. least_equal (strong_by c.args.ups.now) (length c.args.ups.now) a == a) c.loop-label.label
      (λ i. (w.least-is i).items) c.loop-label.invariant
      (eqb-apart (least_equal (strong_by c.args.ups.now) (length c.args.ups.now) c.loop-label.label) c.loop-label.label (λ e. w.if-least_equal-label.false (c.least_equal.ensures ∙ e)))
]
