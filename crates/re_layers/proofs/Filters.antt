-- Filters of lists, and tests.
use Rattle.std.proofs.Common.{◌≡◌, ℕ, zero, suc, ◌≤◌, Bool, true, false, cond, List, [], ◌∷◌, length, get_or, refl, sym, ap, ◌∙◌, arith, ◌⊎◌, inl, inr}
use Rattle.std.specs.Prelude.{Contains, filter}
use Rattle.std.proofs.lemmas.Bool.{false≢true}
use Rattle.re_labels.proofs.Membership.{Contains-here, Contains-later}

-- a filter that lets through less keeps no more
pub length-filter_le : {A : Type 0} (less more : A → Bool) (xs : List A) → ((x : A) → Contains xs x → less x ≡ true → more x ≡ true)
    → length (filter less xs) ≤ length (filter more xs)
length-filter_le less more [] each = omega arith
length-filter_le {A} less more (x ∷ xs) each =
    go (less x) (more x) (each x (Contains-here x xs)) (length-filter_le less more xs (λ y at. each y (Contains-later y x xs at)))
  where
    go : (b c : Bool) → (b ≡ true → c ≡ true) → length (filter less xs) ≤ length (filter more xs)
        → length (cond b (x ∷ filter less xs) (filter less xs)) ≤ length (cond c (x ∷ filter more xs) (filter more xs))
    go true true h l = omega (arith, l)
    go true false h l = absurd (false≢true (h refl))
    go false true h l = omega (arith, l)
    go false false h l = l

pub filter_all : (test : ℕ → Bool) (xs : List ℕ) → ((x : ℕ) → Contains xs x → test x ≡ true) → filter test xs ≡ xs
filter_all test [] each = refl
filter_all test (x ∷ xs) each =
    let here : test x ≡ true = each x (Contains-here x xs) in
    let rest : filter test xs ≡ xs = filter_all test xs (λ y at. each y (Contains-later y x xs at)) in
    rw here (ap (λ ys. x ∷ ys) rest)

-- a filter behind another one, where a third lets through less than the second
pub filter_through : (but more less : ℕ → Bool) (xs : List ℕ) → ((x : ℕ) → less x ≡ true → more x ≡ true)
    → filter but (filter less xs) ≡ filter less (filter but (filter more xs))
filter_through but more less [] each = refl
filter_through but more less (x ∷ xs) each = go (less x) (more x) (but x) refl refl refl (filter_through but more less xs each)
  where
    go : (b c d : Bool) → less x ≡ b → more x ≡ c → but x ≡ d → filter but (filter less xs) ≡ filter less (filter but (filter more xs))
        → filter but (cond b (x ∷ filter less xs) (filter less xs)) ≡ filter less (filter but (cond c (x ∷ filter more xs) (filter more xs)))
    go true false d e f g rest = absurd (false≢true (sym f ∙ each x e))
    go true true true e f g rest = rw (g, e) (ap (λ ys. x ∷ ys) rest)
    go true true false e f g rest = rw g rest
    go false false d e f g rest = rest
    go false true true e f g rest = rw (g, e) rest
    go false true false e f g rest = rw g rest

pub single : (xs : List ℕ) (d : ℕ) → length xs ≡ 1 → xs ≡ get_or xs 0 d ∷ []
single [] d e = absurd (omega (arith, e))
single (x ∷ []) d e = refl
single (x ∷ y ∷ xs) d e = absurd (omega (arith, e))

-- ---- tests
pub either : (a : Bool) → (a ≡ true) ⊎ (a ≡ false)
either true = inl refl
either false = inr refl

pub le_cases : (m n : ℕ) → m ≤ suc n → (m ≤ n) ⊎ (m ≡ suc n)
le_cases zero n l = inl (omega arith)
le_cases (suc m) zero l = inr (omega arith)
le_cases (suc m) (suc n) l = elim (le_cases m n (omega arith)) [ inl l' ↦ inl (omega arith) | inr e ↦ inr (omega arith) ]
