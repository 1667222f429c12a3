use Rattle.std.proofs.Common.{◌≡◌, take}
use Rattle.re_labels.proofs.listing.Picks.of.Given as goal

abbrev pub invariant-loop-number : goal.invariant-loop-number
invariant-loop-number l = l.held.items ≡ take l.number-index l.numbers
