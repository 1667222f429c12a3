use Rattle.std.proofs.Common.{arith}
use Rattle.re_check.proofs.AllowedImages.{mapped}
use Rattle.re_check.specs.LabelsOver.{labels_over}
use Rattle.re_check.proofs.allowed_images.all_labels_over.Goals as goal
use Rattle.re_labels.specs.declared.TheConstants.{MAX_LABELS}

pub returns : goal.returns
returns c = mapped (labels_over c.args.entries.now) c.loop-label.over MAX_LABELS c.loop-label.invariant.count (λ k l. c.loop-label.invariant.over k (omega (arith, c.loop-label-test.false)))
