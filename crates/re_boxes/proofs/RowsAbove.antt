-- Rows that may dominate a row.
use Rattle.std.proofs.Common.{◌≡◌, ℕ, Bool, true, false, List, [], ◌∷◌, refl, sym, ◌∙◌, subst, inl, inr}
use Rattle.std.specs.List.{list_all, list_any}
use Rattle.std.proofs.lemmas.Bool.{false≢true}
use Rattle.re_labels.proofs.Placing.{dominates-Dominates}
use Rattle.re_labels.proofs.Rearranging.{Contains-Rearranged, Rearranged-sym}
use Rattle.re_labels.specs.Rows.{IsUnder, dominates}
use Rattle.re_labels.proofs.Membership.{Contains-In, In, In-Contains, all-In_from, any-In}
use Rattle.re_labels.proofs.Sets.{IsWithin-within}
use Rattle.re_labels.specs.Sets.{IsIn, IsWithin, within}

abbrev pub each_lies : List (List ℕ) → List (List ℕ) → Bool
each_lies row top = list_all (λ set. list_any (within set) top) row

under_one : (row moved : List (List ℕ)) → IsUnder row moved → (s : List ℕ) → In s row → (t : List ℕ) × In t moved × IsWithin s t
under_one [] moved h s i = absurd i
under_one (r ∷ row) [] h s i = absurd h
under_one (r ∷ row) (t ∷ moved) h s (inl e) = (t, inl refl, λ x c. h.0 x (subst (IsIn x) e c))
under_one (r ∷ row) (t ∷ moved) h s (inr i) = let m = under_one row moved h.1 s i in (m.0, inr m.1, m.2)

lies_below : (top row : List (List ℕ)) → dominates top row ≡ true → each_lies row top ≡ true
lies_below top row h =
    let d = dominates-Dominates top row h in
    all-In_from (λ set. list_any (within set) top) row (λ s i.
    let m = under_one row d.0 d.2 s i in
    any-In (within s) m.0 top (Contains-In m.0 top (Contains-Rearranged m.0 (Rearranged-sym d.1) (In-Contains m.0 d.0 m.1))) (IsWithin-within s m.0 m.2))

-- the test by sets tells nothing wrong
pub tested : (top row : List (List ℕ)) (r : Bool) → r ≡ each_lies row top → r ≡ false → r ≡ dominates top row
tested top row r e f = elim (dominates top row) as (λ b. dominates top row ≡ b → r ≡ b) [
  | true ↦ λ d. absurd (false≢true (sym f ∙ e ∙ lies_below top row d))
  | false ↦ λ d. f
] refl
