use Rattle.std.proofs.Common.{◌≡◌, replicate}
use Rattle.re_labels.proofs.listing.Picks.all_alike.Given as goal

abbrev pub invariant-loop-i : goal.invariant-loop-i
invariant-loop-i l = l.held.items ≡ replicate l._i l.number
