use Rattle.std.proofs.Common.{◌≡◌, ◌∷◌, [], map, take}
use Rattle.re_labels.specs.ListSets.{list_set}
use Rattle.re_families.proofs.naming.letter_names.Given as goal

abbrev pub invariant-loop-letter : goal.invariant-loop-letter
invariant-loop-letter l = l.names ≡ list_set (map (λ letter. letter ∷ []) (take l.letter-index l.letters))
