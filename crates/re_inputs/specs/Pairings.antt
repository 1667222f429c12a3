-- Configurations of pairs: of the labels of two configurations, those of the second one in any order.
use Rattle.std.specs.Prelude.{ℕ, ◌+◌, ◌*◌, List, [], ◌∷◌, length, map}
use Rattle.std.specs.List.{flat_map}
use Rattle.re_labels.specs.Configs.{image_at, sorted}
use Rattle.re_labels.specs.Orders.{placements}
use Rattle.re_labels.specs.Constraints.{Constraint}

-- the pairs x * m + y of the numbers that stand at the same places
abbrev pub beside : ℕ → List ℕ → List ℕ → List ℕ
beside m [] ys = []
beside m (x ∷ xs) [] = []
beside m (x ∷ xs) (y ∷ ys) = (x * m + y) ∷ beside m xs ys

-- the same with the second numbers in another order
abbrev pub beside_in : ℕ → List ℕ → List ℕ → List ℕ → List ℕ
beside_in m xs ys order = beside m xs (map (image_at ys) order)

-- the multisets of pairs with these first and these second parts, one for each order of the second ones
abbrev pub pairings : ℕ → List ℕ → List ℕ → List (List ℕ)
pairings m xs ys = map (λ order. sorted (beside_in m xs ys order)) (placements (length xs))

-- the same for each configuration of second parts
abbrev pub pairings_with : ℕ → Constraint → List ℕ → List (List ℕ)
pairings_with m given xs = flat_map (pairings m xs) given.configs

-- and for each one of first parts
abbrev pub all_pairings : ℕ → Constraint → Constraint → List (List ℕ)
all_pairings m own given = flat_map (pairings_with m given) own.configs
