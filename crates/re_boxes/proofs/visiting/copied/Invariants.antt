use Rattle.std.proofs.Common.{◌≡◌, take, length}
use Rattle.re_boxes.proofs.visiting.copied.Given as goal

abbrev pub invariant-loop-candidate : goal.invariant-loop-candidate
invariant-loop-candidate l = record {
  items : l.copied.items ≡ take l.candidate-index l.candidates;
  count : length l.copied.items ≡ l.candidate-index;
}
