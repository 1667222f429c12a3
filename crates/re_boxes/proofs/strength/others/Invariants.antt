use Rattle.std.proofs.Common.{◌≡◌, ◌<◌, ◌≤◌, ℕ, false, not}
use Rattle.re_labels.specs.Sets.{has}
use Rattle.re_boxes.proofs.strength.others.Given as goal

abbrev pub invariant-loop-label : goal.invariant-loop-label
invariant-loop-label l = record {
  before : (z : ℕ) → z < l.label → has l.other z ≡ not (has l.set z);
  behind : (z : ℕ) → l.label ≤ z → has l.other z ≡ false;
}
