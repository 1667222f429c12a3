use Rattle.std.proofs.Common.{◌+◌, ◌*◌, ◌≤◌, length, take}
use Rattle.re_closure.specs.Kept.{AreSettledBefore, combinations_of}
use Rattle.re_closure.proofs.topmost.offer_combinations.Given as goal

abbrev pub invariant-loop-other : goal.invariant-loop-other
invariant-loop-other l = record {
  settled : AreSettledBefore l.kept l.line (take l.other-index l.kept) l.initial.waiting.items l.waiting.items;
  few : length l.waiting.items ≤ length l.initial.waiting.items + l.other-index * combinations_of (length l.line);
}
