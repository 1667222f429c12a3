-- Choices from rows, and rows under rows.
use Rattle.std.proofs.Common.{ℕ, ◌<◌, List, [], ◌∷◌, length, map, refl, inl, inr, arith}
use Rattle.std.specs.List.{AllByRecursion}
use Rattle.std.specs.Prelude.{Contains}
use Rattle.re_labels.proofs.Rearranging.{AllZip-Rearranged, AllZip-flip}
use Rattle.re_labels.specs.Rearranging.{Rearranged}
use Rattle.re_labels.specs.Rows.{IsChoice, IsUnder, choices}
use Rattle.re_labels.proofs.Membership.{Contains-In, Contains-none, In, In-Contains, In-flat_map, In-flat_map_from, In-map, In-map_from}
use Rattle.re_labels.specs.Sets.{IsIn}

pub In-choices : (c : List ℕ) (r : List (List ℕ)) → IsChoice c r → In c (choices r)
In-choices [] [] h = inl refl
In-choices [] (s ∷ r) h = absurd h
In-choices (x ∷ c) [] h = absurd h
In-choices (x ∷ c) (s ∷ r) h =
    In-flat_map (λ y. map (λ d. y ∷ d) (choices r)) x (x ∷ c) s (Contains-In x s h.0) (In-map (λ d. x ∷ d) c (choices r) (In-choices c r h.1))

pub In-choices_from : (c : List ℕ) (r : List (List ℕ)) → In c (choices r) → IsChoice c r
In-choices_from c [] (inl e) = rw e tt
In-choices_from c [] (inr i) = absurd i
In-choices_from c (s ∷ r) i =
    let a = In-flat_map_from (λ y. map (λ d. y ∷ d) (choices r)) c s i in
    let b = In-map_from (λ d. a.0 ∷ d) c (choices r) a.2 in
    rw b.2 (In-Contains a.0 s a.1, In-choices_from b.0 r b.1)

pub IsUnder-trans : (r m n : List (List ℕ)) → IsUnder r m → IsUnder m n → IsUnder r n
IsUnder-trans [] [] n h k = k
IsUnder-trans [] (t ∷ m) n h k = absurd h
IsUnder-trans (s ∷ r) [] n h k = absurd h
IsUnder-trans (s ∷ r) (t ∷ m) [] h k = absurd k
IsUnder-trans (s ∷ r) (t ∷ m) (w ∷ n) h k = ((λ x c. k.0 x (h.0 x c)), IsUnder-trans r m n h.1 k.1)

-- what is chosen from the lower row can be chosen from the upper one
pub IsChoice-under : (c : List ℕ) (r m : List (List ℕ)) → IsUnder r m → IsChoice c r → IsChoice c m
IsChoice-under [] [] [] h k = k
IsChoice-under [] [] (t ∷ m) h k = absurd h
IsChoice-under [] (s ∷ r) m h k = absurd k
IsChoice-under (x ∷ c) [] m h k = absurd k
IsChoice-under (x ∷ c) (s ∷ r) [] h k = absurd h
IsChoice-under (x ∷ c) (s ∷ r) (t ∷ m) h k = (h.0 x k.0, IsChoice-under c r m h.1 k.1)

-- where there is a choice no set is empty
pub IsChoice-filled : (c : List ℕ) (r : List (List ℕ)) → IsChoice c r → AllByRecursion (λ s. 0 < length s) r
IsChoice-filled c [] h = tt
IsChoice-filled [] (s ∷ r) h = absurd h
IsChoice-filled (x ∷ c) ([] ∷ r) h = absurd (Contains-none x h.0)
IsChoice-filled (x ∷ c) ((y ∷ s) ∷ r) h = (omega arith, IsChoice-filled c r h.1)

pub IsUnder-refl : (row : List (List ℕ)) → IsUnder row row
IsUnder-refl [] = tt
IsUnder-refl (s ∷ row) = ((λ x i. i), IsUnder-refl row)

-- a choice from a row goes along into another order of the row
pub IsChoice-Rearranged : {row row' : List (List ℕ)} (labels : List ℕ) → Rearranged row row' → IsChoice labels row → (labels' : List ℕ) × Rearranged labels labels' × IsChoice labels' row'
IsChoice-Rearranged {row} {row'} labels r h =
    let (labels', order, zip) = AllZip-Rearranged (λ set x. IsIn x set) r labels (AllZip-flip IsIn labels row h) in
    (labels', order, AllZip-flip (λ set x. IsIn x set) row' labels' zip)

-- the list of all choices has exactly them
pub IsChoice-choices : (row : List (List ℕ)) (labels : List ℕ) → Contains (choices row) labels → IsChoice labels row
IsChoice-choices row labels held = In-choices_from labels row (Contains-In labels (choices row) held)

pub choices-IsChoice : (row : List (List ℕ)) (labels : List ℕ) → IsChoice labels row → Contains (choices row) labels
choices-IsChoice row labels chosen = In-Contains labels (choices row) (In-choices labels row chosen)
