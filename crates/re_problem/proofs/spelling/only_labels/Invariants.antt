use Rattle.std.proofs.Common.{◌≡◌, ◌∷◌, [], length, map, take}
use Rattle.re_problem.proofs.spelling.only_labels.Given as goal

abbrev pub invariant-loop-set : goal.invariant-loop-set
invariant-loop-set l = record { sets : take l.set-index l.sets ≡ map (λ label. label ∷ []) l.labels.items; count : length l.labels.items ≡ l.set-index }
