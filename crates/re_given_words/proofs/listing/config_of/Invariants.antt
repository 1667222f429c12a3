use Rattle.std.proofs.Common.{◌≡◌, take}
use Rattle.re_given_words.proofs.listing.config_of.Given as goal

abbrev pub invariant-loop-number : goal.invariant-loop-number
invariant-loop-number l = l.held.items ≡ take l.number-index l.numbers
