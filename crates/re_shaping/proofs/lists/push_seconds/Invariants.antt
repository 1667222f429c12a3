use Rattle.std.proofs.Common.{◌≡◌, ℕ, List, ◌++◌, map, take}
use Rattle.re_shaping.proofs.lists.push_seconds.Given as goal

abbrev pub invariant-loop-pair : goal.invariant-loop-pair
invariant-loop-pair l = l.images.items ≡ l.fn.images.items ++ map (λ (pair : List (List ℕ) × List ℕ). pair.1) (take l.pair-index l.pairs)
