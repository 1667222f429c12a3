use Rattle.std.proofs.Common.{◌≡◌, map, take, ℕ}
use Rattle.re_why.proofs.end_witness.second_labels.Given as goal

abbrev pub invariant-loop-pair : goal.invariant-loop-pair
invariant-loop-pair l = l.labels.items ≡ map (λ (pair : ℕ × ℕ). pair.1) (take l.pair-index l.pairs)
