use Rattle.std.proofs.Common.{◌≡◌, ℕ, ◌+◌, ◌<◌, false, drop, length, get_or}
use Rattle.re_labels.specs.Sets.{has}
use Rattle.re_shaping.proofs.finding.first_shared.Given as goal

abbrev pub invariant-loop-label : goal.invariant-loop-label
invariant-loop-label l = record {
  apart : (x y : ℕ) → x < l.label → x < y → y < length l.all → get_or l.all x 0 ≡ get_or l.all y 0 → ⊥;
  passed : (x : ℕ) → x < l.label → has (drop (x + 1) l.all) (get_or l.all x 0) ≡ false;
}
