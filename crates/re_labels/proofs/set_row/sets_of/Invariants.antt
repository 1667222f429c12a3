use Rattle.std.proofs.Common.{◌≡◌, take, map}
use Rattle.re_labels.proofs.set_row.sets_of.Given as goal
use Rattle.re_labels.specs.Sets.{set_of}
use Rattle.re_labels.specs.declared.TheConstants.{MAX_LABELS}

abbrev pub invariant-loop-number : goal.invariant-loop-number
invariant-loop-number l = l.sets.items ≡ map (set_of MAX_LABELS) (take l.number-index l.numbers)
