use Rattle.std.proofs.Common.{◌<◌, ap, arith, length, lit<, ◌∙◌}
use Rattle.re_changes.proofs.Counted.{length-map_counted, pushed}
use Rattle.re_changes.specs.Classes.{least_equal, strong_by}
use Rattle.re_changes.specs.Renumbering.{number_among}
use Rattle.re_changes.proofs.merging.merge_map.Goals as goal
use Rattle.re_labels.specs.declared.TheConstants.{MAX_LABELS}

pub push-requires : goal.push-requires
push-requires c = (
  lit< tt,
  (let e = ap length c.loop-label.invariant ∙ length-map_counted (λ a. number_among c.args.stay.now (least_equal (strong_by c.args.covers.now) (length c.args.covers.now) a)) c.loop-label.label in
      let few = c.requires.few in let below = c.loop-label-test.true in let h : length c.loop-label.images.items < MAX_LABELS = omega (arith, e) in h),
)

pub loop-label-preserved : goal.loop-label-preserved
loop-label-preserved c =
    pushed (λ a. number_among c.args.stay.now (least_equal (strong_by c.args.covers.now) (length c.args.covers.now) a)) c.loop-label.label c.number_among.result
    c.push.ensures.items c.loop-label.invariant (c.number_among.ensures ∙ ap (number_among c.args.stay.now) c.least_equal.ensures)
