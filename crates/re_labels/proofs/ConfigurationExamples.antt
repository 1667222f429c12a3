-- Configurations and rows at small numbers, by computation.
use Rattle.std.proofs.Common.{◌≡◌, true, false, [], ◌∷◌, refl}
use Rattle.re_labels.specs.Configs.{sorted}
use Rattle.re_labels.specs.Orders.{multisets, placements}
use Rattle.re_labels.specs.Rows.{all_rows, choices, combined, dominates}
use Rattle.re_labels.specs.Sets.{set_of}

-- the multiset of the labels 2, 0, 2
multiset_of_three : sorted (2 ∷ 0 ∷ 2 ∷ []) ≡ 0 ∷ 2 ∷ 2 ∷ []
multiset_of_three = refl

-- the multisets of 2 of the numbers 0, 1, 2, and the orders of three places
pairs : multisets 2 0 3 ≡ (0 ∷ 0 ∷ []) ∷ (0 ∷ 1 ∷ []) ∷ (0 ∷ 2 ∷ []) ∷ (1 ∷ 1 ∷ []) ∷ (1 ∷ 2 ∷ []) ∷ (2 ∷ 2 ∷ []) ∷ []
pairs = refl

six_orders : placements 3 ≡ (0 ∷ 1 ∷ 2 ∷ []) ∷ (0 ∷ 2 ∷ 1 ∷ []) ∷ (1 ∷ 0 ∷ 2 ∷ []) ∷ (1 ∷ 2 ∷ 0 ∷ []) ∷ (2 ∷ 0 ∷ 1 ∷ []) ∷ (2 ∷ 1 ∷ 0 ∷ []) ∷ []
unfolding placements
six_orders = refl

-- the choices from {0, 1} and {2}
two_choices : choices ((0 ∷ 1 ∷ []) ∷ (2 ∷ []) ∷ []) ≡ (0 ∷ 2 ∷ []) ∷ (1 ∷ 2 ∷ []) ∷ []
two_choices = refl

-- {0, 1} {2} dominates {2} {0}, for which the sets change places, but not {0} {1}
over_moved : dominates ((0 ∷ 1 ∷ []) ∷ (2 ∷ []) ∷ []) ((2 ∷ []) ∷ (0 ∷ []) ∷ []) ≡ true
unfolding placements
over_moved = refl

not_over : dominates ((0 ∷ 1 ∷ []) ∷ (2 ∷ []) ∷ []) ((0 ∷ []) ∷ (1 ∷ []) ∷ []) ≡ false
unfolding placements
not_over = refl

-- {0} {1, 2} and {1} {1} combined at the first place
combined_first : combined 0 ((0 ∷ []) ∷ (1 ∷ 2 ∷ []) ∷ []) ((1 ∷ []) ∷ (1 ∷ []) ∷ []) ≡ (0 ∷ 1 ∷ []) ∷ (1 ∷ []) ∷ []
combined_first = refl

-- the rows of two of the sets {0}, {1}, {0, 1}
six_rows : all_rows 2 2 ≡ ((0 ∷ []) ∷ (0 ∷ []) ∷ []) ∷ ((0 ∷ []) ∷ (1 ∷ []) ∷ []) ∷ ((0 ∷ []) ∷ (0 ∷ 1 ∷ []) ∷ [])
    ∷ ((1 ∷ []) ∷ (1 ∷ []) ∷ []) ∷ ((1 ∷ []) ∷ (0 ∷ 1 ∷ []) ∷ []) ∷ ((0 ∷ 1 ∷ []) ∷ (0 ∷ 1 ∷ []) ∷ []) ∷ []
unfolding set_of
six_rows = refl
