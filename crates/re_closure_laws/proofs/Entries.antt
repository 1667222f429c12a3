-- Entries that give each set its label by a function.
use Rattle.std.proofs.Common.{◌≡◌, ℕ, zero, suc, ◌<◌, List, [], ◌∷◌, length, map, refl, sym, ap, ◌∙◌, inl, inr, arith}
use Rattle.std.specs.Prelude.{Contains}
use Rattle.std.specs.List.{AllByRecursion}
use Rattle.re_labels.specs.Rows.{placed, set_at}
use Rattle.re_labels.proofs.Membership.{Contains-cases, Contains-here, Contains-later, Contains-none}
use Rattle.re_labels.proofs.LabelPlaces.{get-place_of, place_of-below}
use Rattle.re_labels.specs.Lists.{place_of}
use Rattle.re_problem.specs.Steps.{SetEntry, entry_sets, label_at, label_of}
use Rattle.re_labels.proofs.Searching.{same_read}

abbrev pub entries_by : (List ℕ → ℕ) → List (List ℕ) → List SetEntry
entries_by f sets = map (λ set. record { set = set; label = f set }) sets

pub sets_by : (f : List ℕ → ℕ) (sets : List (List ℕ)) → entry_sets (entries_by f sets) ≡ sets
sets_by f [] = refl
sets_by f (s ∷ sets) = ap (λ l. s ∷ l) (sets_by f sets)

pub label_at_by : (f : List ℕ → ℕ) (sets : List (List ℕ)) (k : ℕ) → k < length sets → label_at (entries_by f sets) k ≡ f (set_at sets k)
label_at_by f [] k l = absurd (omega arith)
label_at_by f (s ∷ sets) zero l = refl
label_at_by f (s ∷ sets) (suc k) l = label_at_by f sets k (omega arith)

pub label_of_by : (f : List ℕ → ℕ) (sets : List (List ℕ)) (set : List ℕ) → Contains sets set → label_of (entries_by f sets) set ≡ f set
label_of_by f sets set held =
    ap (λ s. label_at (entries_by f sets) (place_of s set)) (sets_by f sets)
    ∙ label_at_by f sets (place_of sets set) (place_of-below sets set held)
    ∙ ap f (get-place_of sets set held)

pub labels_of_by : (f : List ℕ → ℕ) (sets row : List (List ℕ)) → ((set : List ℕ) → Contains row set → Contains sets set) → map (label_of (entries_by f sets)) row ≡ map f row
labels_of_by f sets [] h = refl
labels_of_by f sets (s ∷ row) h = (λ i. label_of_by f sets s (h s (Contains-here s row)) i ∷ labels_of_by f sets row (λ set k. h set (Contains-later set s row k)) i)

pub labels_at_by : (f : List ℕ → ℕ) (sets : List (List ℕ)) (places : List ℕ) → AllByRecursion (λ k. k < length sets) places → map (label_at (entries_by f sets)) places ≡ map f (placed sets places)
labels_at_by f sets [] h = refl
labels_at_by f sets (k ∷ places) h = (λ i. label_at_by f sets k h.0 i ∷ labels_at_by f sets places h.1 i)

-- what stands at places stands in the list
pub placed_in : (sets : List (List ℕ)) (places : List ℕ) → AllByRecursion (λ k. k < length sets) places → (set : List ℕ) → Contains (placed sets places) set → Contains sets set
placed_in sets [] h set i = absurd (Contains-none set i)
placed_in sets (k ∷ places) h set i = elim (Contains-cases set (set_at sets k) (placed sets places) i) [
  | inl e ↦ (k, h.0, sym (e ∙ same_read sets k [] set h.0))
  | inr j ↦ placed_in sets places h.1 set j
]
