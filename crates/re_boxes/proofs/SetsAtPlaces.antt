-- Sets of a row, and one of them changed.
use Rattle.std.proofs.Common.{◌≡◌, ℕ, zero, suc, ◌+◌, ◌<◌, List, [], ◌∷◌, ◌++◌, length, map, take, refl, ap, add-one, arith}
use Rattle.std.specs.Prelude.{slice_set}
use Rattle.std.specs.List.{AllByRecursion}
use Rattle.re_labels.specs.Rows.{IsUnder, set_at}
use Rattle.re_labels.specs.Sets.{IsWithin}

pub under_at : (r t : List (List ℕ)) (i : ℕ) → IsUnder r t → IsWithin (set_at r i) (set_at t i)
under_at [] [] i h = λ x c. c
under_at [] (w ∷ t) i h = absurd h
under_at (s ∷ r) [] i h = absurd h
under_at (s ∷ r) (w ∷ t) zero h = h.0
under_at (s ∷ r) (w ∷ t) (suc i) h = under_at r t i h.1

pub under_set : (r t : List (List ℕ)) (i : ℕ) (w : List ℕ) → IsUnder r t → IsWithin (set_at r i) w → IsUnder r (slice_set t i w)
under_set [] [] i w h k = tt
under_set [] (v ∷ t) i w h k = absurd h
under_set (s ∷ r) [] i w h k = absurd h
under_set (s ∷ r) (v ∷ t) zero w h k = (k, h.1)
under_set (s ∷ r) (v ∷ t) (suc i) w h k = (h.0, under_set r t i w h.1 k)

pub set_under : (r t : List (List ℕ)) (i : ℕ) (w : List ℕ) → IsUnder r t → IsWithin w (set_at t i) → IsUnder (slice_set r i w) t
set_under [] [] i w h k = tt
set_under [] (v ∷ t) i w h k = absurd h
set_under (s ∷ r) [] i w h k = absurd h
set_under (s ∷ r) (v ∷ t) zero w h k = (k, h.1)
set_under (s ∷ r) (v ∷ t) (suc i) w h k = (h.0, set_under r t i w h.1 k)

pub all_set : (P : List ℕ → Type 0) (r : List (List ℕ)) (i : ℕ) (w : List ℕ) → AllByRecursion P r → P w → AllByRecursion P (slice_set r i w)
all_set P [] i w h k = tt
all_set P (s ∷ r) zero w h k = (k, h.1)
all_set P (s ∷ r) (suc i) w h k = (h.0, all_set P r i w h.1 k)

pub set_there : (r : List (List ℕ)) (i : ℕ) (w : List ℕ) → i < length r → set_at (slice_set r i w) i ≡ w
set_there [] i w b = absurd (omega arith)
set_there (s ∷ r) zero w b = refl
set_there (s ∷ r) (suc i) w b = set_there r i w (omega arith)

pub length-slice_set : (r : List (List ℕ)) (i : ℕ) (w : List ℕ) → length (slice_set r i w) ≡ length r
length-slice_set [] i w = refl
length-slice_set (s ∷ r) zero w = refl
length-slice_set (s ∷ r) (suc i) w = ap suc (length-slice_set r i w)

-- as many empty sets
abbrev pub empties : List (List ℕ) → List (List ℕ)
empties r = map (λ (s : List ℕ). []) r

pub one_more_empty : (r : List (List ℕ)) (i : ℕ) → i < length r → empties (take (i + 1) r) ≡ empties (take i r) ++ [] ∷ []
one_more_empty r i b = rw (add-one) (more r i b)
  where
    more : (r : List (List ℕ)) (i : ℕ) → i < length r → empties (take (suc i) r) ≡ empties (take i r) ++ [] ∷ []
    more [] i b = absurd (omega arith)
    more (s ∷ r) zero b = refl
    more (s ∷ r) (suc i) b = ap (λ (t : List (List ℕ)). [] ∷ t) (more r i (omega arith))
