use Rattle.std.proofs.Common.{◌≡◌, ◌∷◌, take}
use Rattle.re_given_words.proofs.tuples.Tuple.with_first.Given as goal

abbrev pub invariant-loop-other : goal.invariant-loop-other
invariant-loop-other l = l.held.items ≡ l.number ∷ take l.other-index l.other-items
