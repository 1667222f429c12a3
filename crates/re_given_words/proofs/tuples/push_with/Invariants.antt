use Rattle.std.proofs.Common.{◌≡◌, ◌++◌, ◌∷◌, map, take}
use Rattle.re_given_words.proofs.tuples.push_with.Given as goal

abbrev pub invariant-loop-tuple : goal.invariant-loop-tuple
invariant-loop-tuple l = l.all.items ≡ l.initial.all.items ++ map (λ tuple. l.number ∷ tuple) (take l.tuple-index l.tuples)
