-- A number that a list doesn't hold, and that is no greater than the list is long.
use Rattle.std.proofs.Common.{◌≡◌, ℕ, zero, suc, ◌≤◌, ◌<◌, Bool, true, false, not, cond, List, [], ◌∷◌, length, refl, sym, ap, subst, arith, inl, inr}
use Rattle.std.specs.Prelude.{Contains, ◌==◌, filter}
use Rattle.std.specs.List.{list_any}
use Rattle.std.proofs.lemmas.Bool.{eq-eqb, eqb-true, ne_eqb, or_cases, or_left, or_right}
use Rattle.re_labels.proofs.Membership.{Contains-cases, Contains-filter, Contains-here, Contains-later, Contains-none, length-filter_most}

-- ---- whether a list holds a number
abbrev pub holds : List ℕ → ℕ → Bool
holds xs x = list_any (λ y. y == x) xs

pub holds-Contains : (xs : List ℕ) (x : ℕ) → holds xs x ≡ true → Contains xs x
holds-Contains [] x e = absurd (cc)
holds-Contains (y ∷ xs) x e = elim (or_cases (y == x) (holds xs x) e) [
  | inl here ↦ subst (λ z. Contains (z ∷ xs) x) (sym (eqb-true y x here)) (Contains-here x xs)
  | inr there ↦ Contains-later x y xs (holds-Contains xs x there)
]

pub Contains-holds : (xs : List ℕ) (x : ℕ) → Contains xs x → holds xs x ≡ true
Contains-holds [] x held = absurd (Contains-none x held)
Contains-holds (y ∷ xs) x held = elim (Contains-cases x y xs held) [
  | inl e ↦ or_left (y == x) (holds xs x) (eq-eqb y x (sym e))
  | inr there ↦ or_right (y == x) (holds xs x) (Contains-holds xs x there)
]

-- ---- without one number
abbrev pub without : ℕ → List ℕ → List ℕ
without x xs = filter (λ y. not (y == x)) xs

pub without_less : (x : ℕ) (xs : List ℕ) → Contains xs x → length (without x xs) < length xs
without_less x [] held = absurd (Contains-none x held)
without_less x (y ∷ xs) held = by (y == x) refl (λ there. without_less x xs there)
  where
    by : (b : Bool) → (y == x) ≡ b → (Contains xs x → length (without x xs) < length xs)
        → length (cond (not b) (y ∷ without x xs) (without x xs)) < suc (length xs)
    by true e rest = let most : length (without x xs) ≤ length xs = length-filter_most (λ y. not (y == x)) xs in omega (arith, most)
    by false e rest = elim (Contains-cases x y xs held) [
      | inl same ↦ absurd (let one : (y == x) ≡ true = eq-eqb y x (sym same) in cc)
      | inr there ↦ (let less : length (without x xs) < length xs = rest there in omega (arith, less))
    ]

-- ---- a free number
-- the greatest number of at most n that the list doesn't hold, if there is one
abbrev pub free : ℕ → List ℕ → ℕ
free zero xs = zero
free (suc n) xs = cond (holds xs (suc n)) (free n (without (suc n) xs)) (suc n)

pub free_most : (n : ℕ) (xs : List ℕ) → free n xs ≤ n
free_most zero xs = omega arith
free_most (suc n) xs = by (holds xs (suc n)) (free_most n (without (suc n) xs))
  where
    by : (b : Bool) → free n (without (suc n) xs) ≤ n → cond b (free n (without (suc n) xs)) (suc n) ≤ suc n
    by true l = omega (arith, l)
    by false l = omega arith

pub free_other : (n : ℕ) (xs : List ℕ) → length xs ≤ n → Contains xs (free n xs) → ⊥
free_other zero [] l held = Contains-none 0 held
free_other zero (x ∷ xs) l held = absurd (omega (arith, l))
free_other (suc n) xs l held = by (holds xs (suc n)) refl held (free_other n (without (suc n) xs))
  where
    by : (b : Bool) → holds xs (suc n) ≡ b → Contains xs (cond b (free n (without (suc n) xs)) (suc n))
        → (length (without (suc n) xs) ≤ n → Contains (without (suc n) xs) (free n (without (suc n) xs)) → ⊥) → ⊥
    by true e at rest =
        let less : length (without (suc n) xs) < length xs = without_less (suc n) xs (holds-Contains xs (suc n) e) in
        let low : free n (without (suc n) xs) ≤ n = free_most n (without (suc n) xs) in
        let apart : free n (without (suc n) xs) ≡ suc n → ⊥ = λ same. absurd (omega (arith, low, same)) in
        rest (omega (arith, less, l))
        (Contains-filter (λ y. not (y == suc n)) xs (free n (without (suc n) xs)) at (ap not (ne_eqb (free n (without (suc n) xs)) (suc n) apart)))
    by false e at rest = let one : holds xs (suc n) ≡ true = Contains-holds xs (suc n) at in absurd (cc)
