use Rattle.std.proofs.Common.{◌∙◌, ◌+◌, ap, arith, length}
use Rattle.std.proofs.Common.{None, drop}
use Rattle.std.specs.Option.{option_map}
use Rattle.std.specs.Prelude.{slice_range}
use Rattle.re_problem.specs.Items.{labels_from}
use Rattle.re_problem.proofs.Scanning.{counted_on}
use Rattle.re_problem.proofs.labels.count_labels.Goals as goal

pub labels-preserved : goal.labels-preserved
labels-preserved c = record {
  within = c.in-Label.ensures.2;
  few = (let more = c.in-Label.ensures.1 in let few = c.labels.invariant.few in omega arith);
  labels = c.labels.invariant.labels ∙ ap (option_map (λ names. c.labels.count + length names)) c.in-Label.ensures.0
      ∙ counted_on c.labels.count (slice_range c.args.text.now c.in-Label.from c.in-Label.to) (labels_from None (drop c.in-Label.next c.args.text.now));
}
