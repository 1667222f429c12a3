use Rattle.std.proofs.Common.{◌<◌, ap, arith, length, lit<, ◌∙◌}
use Rattle.re_changes.proofs.Counted.{length-map_counted, pushed}
use Rattle.re_changes.specs.Renumbering.{number_among}
use Rattle.re_shaping.specs.Merging.{merged_label}
use Rattle.re_shaping.proofs.merging.numbers_among.Goals as goal
use Rattle.re_labels.specs.declared.TheConstants.{MAX_LABELS}

pub push-requires : goal.push-requires
push-requires c = (
  lit< tt,
  (let e = ap length c.loop-label.invariant ∙ length-map_counted (λ label. number_among c.args.stay.now (merged_label c.args.from c.args.to label)) c.loop-label.label in
      let few = c.requires.labels in let below = c.loop-label-test.true in let h : length c.loop-label.numbers.items < MAX_LABELS = omega (arith, e) in h),
)

pub loop-label-preserved : goal.loop-label-preserved
loop-label-preserved c = pushed (λ label. number_among c.args.stay.now (merged_label c.args.from c.args.to label)) c.loop-label.label c.number_among.result c.push.ensures.items c.loop-label.invariant
    (c.number_among.ensures ∙ ap (number_among c.args.stay.now) c.merged_label.ensures)
