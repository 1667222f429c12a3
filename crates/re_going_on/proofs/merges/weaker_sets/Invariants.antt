use Rattle.std.proofs.Common.{◌≡◌, length}
use Rattle.re_going_on.proofs.merges.weaker_sets.Given as goal

abbrev pub invariant-loop-label : goal.invariant-loop-label
invariant-loop-label l = length l.weaker.items ≡ l.label
