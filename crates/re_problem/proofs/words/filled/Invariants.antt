use Rattle.std.proofs.Common.{◌≡◌, ◌≤◌, length, take}
use Rattle.re_problem.proofs.words.filled.Given as goal

abbrev pub invariant-loop-place : goal.invariant-loop-place
invariant-loop-place l = record {
  whole : length l.held ≡ 24;
  front : l.place ≤ length l.bytes → take l.place l.held ≡ take l.place l.bytes;
  all : length l.bytes ≤ l.place → take (length l.bytes) l.held ≡ l.bytes;
}
