use Rattle.std.proofs.Common.{◌≡◌, take}
use Rattle.re_describe.proofs.joining.Line.with_behind.Given as goal

abbrev pub invariant-loop-other : goal.invariant-loop-other
invariant-loop-other l = l.held.items ≡ take l.other-index l.sets
