use Rattle.std.proofs.Common.{◌≡◌, ◌≤◌, ℕ, [], get_or}
use Rattle.re_labels.specs.Sets.{IsLabelSet}
use Rattle.re_boxes.proofs.NextLabels.{IsNarrowedTo}
use Rattle.re_boxes.proofs.visiting.narrow.Given as goal

abbrev pub invariant-loop-label : goal.invariant-loop-label
invariant-loop-label l = record {
  sets : (n : ℕ) → ((a : ℕ) → IsLabelSet n (get_or l.fn.ups a [])) → (a : ℕ) → IsLabelSet n (get_or l.ups a []);
  each : IsNarrowedTo l.fn.ups l.ups l.completions l.label;
  others : (a : ℕ) → l.label ≤ a → get_or l.ups a [] ≡ get_or l.fn.ups a [];
}
