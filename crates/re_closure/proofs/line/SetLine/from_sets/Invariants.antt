use Rattle.std.proofs.Common.{◌≡◌, take}
use Rattle.re_closure.proofs.line.SetLine.from_sets.Given as goal

abbrev pub invariant-loop-set : goal.invariant-loop-set
invariant-loop-set l = l.held.items ≡ take l.set-index l.sets
