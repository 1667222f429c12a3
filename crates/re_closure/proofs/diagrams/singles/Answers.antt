use Rattle.std.proofs.Common.{◌<◌, ◌∷◌, [], ap, arith, length, lit<, ◌∙◌}
use Rattle.re_changes.proofs.Counted.{length-map_counted, pushed}
use Rattle.re_labels.specs.declared.TheConstants.{MAX_LABELS}
use Rattle.re_closure.proofs.diagrams.singles.Goals as goal

pub push-requires : goal.push-requires
push-requires c = (
  lit< tt,
  (let e = ap length c.loop-label.invariant ∙ length-map_counted (λ label. label ∷ []) c.loop-label.label in
      let few = c.requires in let below = c.loop-label-test.true in let h : length c.loop-label.sets.items < MAX_LABELS = omega (arith, e) in h),
)

pub loop-label-preserved : goal.loop-label-preserved
loop-label-preserved c = pushed (λ label. label ∷ []) c.loop-label.label c.single.result c.push.ensures.items c.loop-label.invariant c.single.ensures
