-- Domination, one place after another.
use Rattle.std.proofs.Common.{◌≡◌, ℕ, ◌+◌, ◌-◌, ◌<◌, ◌≤◌, List, [], ◌∷◌, length, get_or, sym, ◌∙◌, subst, inl, inr, arith}
use Rattle.std.specs.List.{remove}
use Rattle.std.proofs.lemmas.Bool.{cases_lt}
use Rattle.std.proofs.lemmas.List.{nil_from_length}
use Rattle.re_labels.proofs.Rearranging.{Rearranged-refl, length-AllZip, length-Rearranged}
use Rattle.re_labels.proofs.RowCalls.{read_within}
use Rattle.re_labels.specs.GoodRows.{IsDominated}
use Rattle.re_labels.specs.Rearranging.{chained, kept}
use Rattle.re_labels.specs.Rows.{Dominates, IsUnder, set_at}
use Rattle.re_labels.specs.Sets.{IsWithin}
use Rattle.re_closure.proofs.Places.{front, placed_first, removed_same}

pub none_held : (tops : List (List ℕ)) → length tops ≡ 0 → Dominates tops []
none_held tops e = (tops, Rearranged-refl tops, subst (IsUnder []) (sym (nil_from_length tops e)) tt)

pub held_at : (tops : List (List ℕ)) (first : List ℕ) (others : List (List ℕ)) (place : ℕ) → place < length tops → IsWithin first (set_at tops place) → Dominates (remove tops place) others
    → Dominates tops (first ∷ others)
held_at tops first others place low h (moved, p, u) = (set_at tops place ∷ moved, chained (front tops place [] low) (kept p), (h, u))

-- no place before this one serves
abbrev pub NoneBefore : List (List ℕ) → List ℕ → List (List ℕ) → ℕ → Type 0
NoneBefore tops first others before = (place : ℕ) → place < before → IsWithin first (set_at tops place) → Dominates (remove tops place) others → ⊥

pub none_here : (tops : List (List ℕ)) (first : List ℕ) (others : List (List ℕ)) (place : ℕ) → NoneBefore tops first others place
    → (IsWithin first (set_at tops place) → Dominates (remove tops place) others → ⊥) → NoneBefore tops first others (place + 1)
none_here tops first others place before here q low = elim (cases_lt q place) [
  | inl less ↦ before q less
  | inr ge ↦ let at : q ≡ place = omega (arith, low, ge) in subst (λ k. IsWithin first (set_at tops k) → Dominates (remove tops k) others → ⊥) (sym at) here
]

pub none_again : (tops : List (List ℕ)) (first : List ℕ) (others : List (List ℕ)) (place : ℕ) → place < length tops → (0 < place) × (set_at tops (place - 1) ≡ set_at tops place)
    → NoneBefore tops first others place → NoneBefore tops first others (place + 1)
none_again tops first others place low (some, same) before = none_here tops first others place before
    (λ h d. before (place - 1) (omega (arith, some)) (subst (IsWithin first) (sym same) h) (subst (λ l. Dominates l others) (sym (removed_same tops place some low same)) d))

pub none_at_all : (tops : List (List ℕ)) (first : List ℕ) (others : List (List ℕ)) (place : ℕ) → length tops ≤ place → NoneBefore tops first others place → Dominates tops (first ∷ others) → ⊥
none_at_all tops first others place past before ([], p, u) = absurd u
none_at_all tops first others place past before (t ∷ moved, p, u) =
    let m = placed_first [] p in
    before m.0 (let l = m.1 in omega (arith, l, past)) (subst (IsWithin first) (sym m.2) u.0) (moved, m.3, u.1)

pub one_length : (tops sets : List (List ℕ)) → Dominates tops sets → length tops ≡ length sets
one_length tops sets (moved, p, u) = length-Rearranged p ∙ sym (length-AllZip IsWithin sets moved u)

-- ---- the lines of a list
abbrev pub NoneOf : List (List (List ℕ)) → List (List ℕ) → ℕ → Type 0
NoneOf lines line before = (k : ℕ) → k < before → Dominates (get_or lines k []) line → ⊥

pub none_more : (lines : List (List (List ℕ))) (line : List (List ℕ)) (i : ℕ) (top : List (List ℕ)) → i < length lines → top ≡ get_or lines i top → NoneOf lines line i → (Dominates top line → ⊥)
    → NoneOf lines line (i + 1)
none_more lines line i top low is before here k h = elim (cases_lt k i) [
  | inl less ↦ before k less
  | inr ge ↦
      let at : k ≡ i = omega (arith, h, ge) in
      subst (λ m. Dominates (get_or lines m []) line → ⊥) (sym at) (subst (λ t. Dominates t line → ⊥) (is ∙ read_within lines i top [] low) here)
]

pub none_of_all : (lines : List (List (List ℕ))) (line : List (List ℕ)) (i : ℕ) → length lines ≤ i → NoneOf lines line i → IsDominated lines line → ⊥
none_of_all lines line i past before (top, (k, low, e), dom) = before k (omega (arith, low, past)) (subst (λ t. Dominates t line) (sym e ∙ read_within lines k top [] low) dom)
