use Rattle.std.proofs.Common.{◌≡◌, ◌≤◌, length, take}
use Rattle.re_labels.proofs.configuration.filled.Given as goal

abbrev pub invariant-loop-place : goal.invariant-loop-place
invariant-loop-place l = record {
  six : length l.held ≡ 6;
  labels : l.place ≤ length l.labels → take l.place l.held ≡ take l.place l.labels;
  whole : length l.labels ≤ l.place → take (length l.labels) l.held ≡ l.labels;
}
