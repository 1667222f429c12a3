-- A row is a multiset of nonempty sets of labels, written as the list of its sets in the order of their numbers.
use Rattle.std.specs.Prelude.{◌≡◌, ℕ, zero, suc, ◌+◌, ◌-◌, ◌*◌, ◌^◌, ◌<◌, ◌≤◌, nat_le, nat_lt, Bool, true, false, ◌&&◌, List, [], ◌∷◌, length, map, if◌then◌else◌, Option, None, Some, slice_index_or}
use Rattle.std.specs.List.{AllByRecursion, AllZip, flat_map, list_any, list_all}
use Rattle.std.specs.Ordering.{nat_cmp}
use Rattle.std.specs.Cmp.Lexicographic.{slice_cmp}
use Rattle.std.specs.declared.cmp.Ordering.{Ordering}
use Rattle.re_labels.specs.Lists.{IsRising, count_from}
use Rattle.re_labels.specs.Sets.{IsIn, IsLabelSet, IsWithin, meet, number, set_of, union, within}
use Rattle.re_labels.specs.Configs.{sorted}
use Rattle.re_labels.specs.Orders.{multisets, placements}
use Rattle.re_labels.specs.Rearranging.{Rearranged}

-- a row of d nonempty sets of labels below n
pub record IsRow (d n : ℕ) (row : List (List ℕ)) : Type 0 where
  pub count : length row ≡ d
  pub sets : AllByRecursion (λ s. IsLabelSet n s × (0 < length s)) row
  pub ascends : IsRising (λ s t. number s ≤ number t) row

-- one label of each set, in the order of the sets
abbrev pub IsChoice : List ℕ → List (List ℕ) → Type 0
IsChoice labels row = AllZip IsIn labels row

-- all choices of one label of each set, first set slowest
abbrev pub choices : List (List ℕ) → List (List ℕ)
choices [] = [] ∷ []
choices (s ∷ row) = flat_map (λ x. map (λ labels. x ∷ labels) (choices row)) s

-- the labels are the choice at this index of the list of all choices, read round and round, after so many rounds
abbrev pub IsChosen : List (List ℕ) → ℕ → ℕ → List ℕ → Type 0
IsChosen row index rounds labels = (place : ℕ) × (place < length (choices row)) × (index ≡ rounds * length (choices row) + place) × (labels ≡ slice_index_or (choices row) place [])

-- each set of the first row lies within the set at its place in the second
abbrev pub IsUnder : List (List ℕ) → List (List ℕ) → Type 0
IsUnder other row = AllZip IsWithin other row

-- in some order the sets of the row hold the sets of the other one, place by place
abbrev pub Dominates : List (List ℕ) → List (List ℕ) → Type 0
Dominates row other = (moved : List (List ℕ)) × Rearranged row moved × IsUnder other moved

-- whether each set of the second row lies within the set at its place in the first
abbrev pub covers : List (List ℕ) → List (List ℕ) → Bool
covers [] [] = true
covers [] (s ∷ other) = false
covers (t ∷ row) [] = false
covers (t ∷ row) (s ∷ other) = within s t && covers row other

-- the set at a place
abbrev pub set_at : List (List ℕ) → ℕ → List ℕ
set_at sets i = slice_index_or sets i []

-- the sets at these places; where the places are in some order, the row in that order
abbrev pub placed : List (List ℕ) → List ℕ → List (List ℕ)
placed sets places = map (set_at sets) places

-- whether the row dominates the other one: a test of all orders
abbrev pub dominates : List (List ℕ) → List (List ℕ) → Bool
dominates row other = list_any (λ order. covers (placed row order) other) (placements (length row))

-- the sets that two rows have in common, place by place
abbrev pub meets : List (List ℕ) → List (List ℕ) → List (List ℕ)
meets [] other = []
meets (s ∷ row) [] = []
meets (s ∷ row) (t ∷ other) = meet s t ∷ meets row other

-- the combination at a place: there the union of the two sets, and at each other place what they have in common
abbrev pub combined : ℕ → List (List ℕ) → List (List ℕ) → List (List ℕ)
combined i [] other = []
combined i (s ∷ row) [] = []
combined zero (s ∷ row) (t ∷ other) = union s t ∷ meets row other
combined (suc i) (s ∷ row) (t ∷ other) = meet s t ∷ combined i row other

-- whether no set is empty
abbrev pub is_full : List (List ℕ) → Bool
is_full row = list_all (λ s. nat_lt 0 (length s)) row

-- a configuration as the row of its one-label sets
abbrev pub singles : List ℕ → List (List ℕ)
singles config = map (λ x. x ∷ []) config

-- the sets in the order of their numbers
abbrev pub in_order : ℕ → List (List ℕ) → List (List ℕ)
in_order n sets = map (set_of n) (sorted (map number sets))

-- the row of these sets, where there are 2 to 6 and none is empty
abbrev pub row_of : ℕ → List (List ℕ) → Option (List (List ℕ))
row_of n sets = if nat_le 2 (length sets) && nat_le (length sets) 6 && is_full sets then Some (in_order n sets) else None

-- rows are in the lexicographic order of the numbers of their sets
abbrev pub row_cmp : List (List ℕ) → List (List ℕ) → Ordering
row_cmp row other = slice_cmp nat_cmp (map number row) (map number other)

-- all nonempty sets of labels below n, in order
abbrev pub all_sets : ℕ → List (List ℕ)
all_sets n = map (set_of n) (count_from 1 (2 ^ n - 1))

-- all rows of d sets of labels below n, in order
abbrev pub all_rows : ℕ → ℕ → List (List (List ℕ))
all_rows d n = map (map (set_of n)) (multisets d 1 (2 ^ n - 1))
