use Rattle.std.proofs.Common.{◌≡◌, ◌<◌, ℕ, Some, refl, ap, arith, length, lit<, ◌∙◌}
use Rattle.re_changes.proofs.Counted.{length-map_counted, pushed}
use Rattle.re_changes.proofs.change.Changed.unchanged.Goals as goal
use Rattle.re_labels.specs.declared.TheConstants.{MAX_LABELS}

pub push-requires : goal.push-requires
push-requires c = (
  lit< tt,
  (let e = ap length c.loop-label.invariant ∙ length-map_counted (λ (label : ℕ). Some label) c.loop-label.label in
      let few = c.names.ensures.problem.names.few in let same = ap length c.names.ensures.names in let n = c.len-label-end.ensures.len in let below = c.loop-label-test.true in let h : length c.loop-label.images.items < MAX_LABELS = omega arith in h),
)

pub loop-label-preserved : goal.loop-label-preserved
loop-label-preserved c = pushed (λ (label : ℕ). Some label) c.loop-label.label (Some c.loop-label.label) c.push.ensures.items c.loop-label.invariant refl
