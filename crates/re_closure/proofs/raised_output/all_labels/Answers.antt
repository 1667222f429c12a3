use Rattle.std.proofs.Common.{◌<◌, ◌++◌, ◌∷◌, [], ap, arith, length, lit<, sym, ◌∙◌}
use Rattle.re_changes.proofs.Counted.{count_from-next}
use Rattle.re_labels.proofs.Membership.{length-count_from}
use Rattle.re_labels.specs.declared.TheConstants.{MAX_LABELS}
use Rattle.re_closure.proofs.raised_output.all_labels.Goals as goal

pub push-requires : goal.push-requires
push-requires c = (
  lit< tt,
  (let e = ap length c.loop-label.invariant ∙ length-count_from 0 c.loop-label.label in
      let few = c.requires in let below = c.loop-label-test.true in let h : length c.loop-label.all.items < MAX_LABELS = omega (arith, e) in h),
)

pub loop-label-preserved : goal.loop-label-preserved
loop-label-preserved c = c.push.ensures.items ∙ ap (λ l. l ++ c.loop-label.label ∷ []) c.loop-label.invariant ∙ sym (count_from-next c.loop-label.label)
