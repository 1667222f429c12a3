use Rattle.std.proofs.Common.{length, ◌-◌, ◌+◌, ◌≡◌, ◌≤◌, drop, None}
use Rattle.std.specs.Option.{option_map}
use Rattle.re_problem.specs.Items.{labels_from, labels_of}
use Rattle.re_problem.proofs.labels.count_labels.Given as goal

abbrev pub invariant-labels : goal.invariant-labels
invariant-labels l = record {
  within : l.at ≤ length l.text;
  few : l.count ≤ l.at;
  labels : option_map length (labels_of l.text) ≡ option_map (λ names. l.count + length names) (labels_from None (drop l.at l.text));
}

abbrev pub decreases-labels : goal.decreases-labels
decreases-labels l = length l.text - l.at
