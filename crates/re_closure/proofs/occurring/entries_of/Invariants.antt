use Rattle.std.proofs.Common.{◌≡◌, take}
use Rattle.re_labels.specs.Lists.{place_of}
use Rattle.re_closure.specs.Sides.{entries_by}
use Rattle.re_closure.proofs.occurring.entries_of.Given as goal

abbrev pub invariant-loop-set : goal.invariant-loop-set
invariant-loop-set l = l.entries.items ≡ entries_by (place_of l.others) (take l.set-index l.sets)
