use Rattle.std.proofs.Common.{◌≡◌, take}
use Rattle.re_closure.proofs.combining.with_set.Given as goal

abbrev pub invariant-loop-held : goal.invariant-loop-held
invariant-loop-held l = l.more.items ≡ take l.held-index l.sets
