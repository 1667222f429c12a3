-- How often a number stands in a list: nothing stands twice where that is at most once.
use Rattle.std.proofs.Common.{◌≡◌, ℕ, zero, suc, ◌+◌, ◌≤◌, cond, List, [], ◌∷◌, ◌++◌, refl, sym, ap, arith, ◌⊎◌, inl, inr}
use Rattle.std.specs.Prelude.{Contains, ◌==◌}
use Rattle.std.proofs.lemmas.Bool.{eq-eqb, ne_eqb}
use Rattle.std.proofs.lemmas.Bool.Decides.{eqb_tells}

pub zero_or : (m : ℕ) → (m ≡ 0) ⊎ (1 ≤ m)
zero_or zero = inl refl
zero_or (suc m) = inr (omega arith)

-- 1 where the two are equal, else 0
pub is_at : ℕ → ℕ → ℕ
is_at n x = cond (n == x) 1 0

pub is_at-same : (n x : ℕ) → n ≡ x → is_at n x ≡ 1
unfolding is_at
is_at-same n x e = ap (λ b. cond b 1 0) (eq-eqb n x e)

pub is_at-other : (n x : ℕ) → (n ≡ x → ⊥) → is_at n x ≡ 0
unfolding is_at
is_at-other n x e = ap (λ b. cond b 1 0) (ne_eqb n x e)

pub is_at-cases : (n x : ℕ) → ((n ≡ x) × (is_at n x ≡ 1)) ⊎ ((n ≡ x → ⊥) × (is_at n x ≡ 0))
is_at-cases n x = elim (eqb_tells n x) [ inl (b, e) ↦ inl (e, is_at-same n x e) | inr (b, e) ↦ inr (e, is_at-other n x e) ]

pub is_at-most : (n x : ℕ) → is_at n x ≤ 1
is_at-most n x = elim (is_at-cases n x) [ inl (e, is) ↦ omega arith | inr (e, is) ↦ omega arith ]

abbrev pub often : ℕ → List ℕ → ℕ
often n [] = 0
often n (x ∷ xs) = is_at n x + often n xs

pub often-append : (n : ℕ) (xs ys : List ℕ) → often n (xs ++ ys) ≡ often n xs + often n ys
often-append n [] ys = omega arith
often-append n (x ∷ xs) ys = let rest = often-append n xs ys in omega arith

pub often-contains : (n : ℕ) (xs : List ℕ) → Contains xs n → 1 ≤ often n xs
often-contains n [] (k, l, e) = absurd (omega arith)
often-contains n (x ∷ xs) (zero, l, e) = let one = is_at-same n x (sym e) in omega arith
often-contains n (x ∷ xs) (suc k, l, e) = let rest = often-contains n xs (k, omega arith, e) in omega arith

pub often-held : (n : ℕ) (xs : List ℕ) → 1 ≤ often n xs → Contains xs n
often-held n [] h = absurd (omega arith)
often-held n (x ∷ xs) h = elim (is_at-cases n x) [
  | inl (e, is) ↦ (zero, omega arith, sym e)
  | inr (e, is) ↦ (let (k, l, at) = often-held n xs (omega arith) in (suc k, omega arith, at))
]
