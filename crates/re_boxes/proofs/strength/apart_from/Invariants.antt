use Rattle.std.proofs.Common.{◌≡◌, ◌<◌, ◌≤◌, ℕ, false, not}
use Rattle.re_labels.specs.Sets.{has}
use Rattle.re_boxes.specs.HeldStrength.{ups_in}
use Rattle.re_boxes.proofs.strength.apart_from.Given as goal

abbrev pub invariant-loop-other : goal.invariant-loop-other
invariant-loop-other l = record {
  before : (z : ℕ) → z < l.other → has l.apart z ≡ not (has (ups_in l.ups z) l.label);
  behind : (z : ℕ) → l.other ≤ z → has l.apart z ≡ false;
}
