use Rattle.std.proofs.Common.{◌+◌, ◌≤◌, length, take}
use Rattle.re_closure.specs.Kept.{AreOffered}
use Rattle.re_closure.proofs.topmost.offer.Given as goal

abbrev pub invariant-loop-line : goal.invariant-loop-line
invariant-loop-line l = record {
  offered : AreOffered l.kept (take l.line-index l.found) l.initial.waiting.items l.waiting.items;
  few : length l.waiting.items ≤ length l.initial.waiting.items + l.line-index;
}
