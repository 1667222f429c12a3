-- Of n + 1 numbers below n two are equal.
use Rattle.std.proofs.Common.{◌≡◌, ℕ, zero, suc, pred, ◌<◌, ap, ◌∙◌, refl, arith, inl, inr, ◌⊎◌}
use Rattle.std.specs.Prelude.{if◌then◌else◌, nat_le}
use Rattle.std.proofs.lemmas.Bool.Decides.{eqb_tells, leb_tells}

-- the numbers but v, without a gap
abbrev squeezed : ℕ → ℕ → ℕ
squeezed v x = if nat_le (suc v) x then pred x else x

squeezed_cases : (v x : ℕ) → (x ≡ v → ⊥) → ((v < x) × (suc (squeezed v x) ≡ x)) ⊎ ((x < v) × (squeezed v x ≡ x))
squeezed_cases v x apart = elim (leb_tells (suc v) x) [
  | inl t ↦ inl (t.1, (let e : suc (pred x) ≡ x = omega (arith, t.1) in rw t.0 e))
  | inr t ↦ inr (low (t.1), rw t.0 refl)
]
  where
    low : x < suc v → x < v
    low l = elim (leb_tells v x) [ inl t ↦ absurd (apart (omega (arith, l, t.1))) | inr t ↦ t.1 ]

squeezed_same : (v x y : ℕ) → (x ≡ v → ⊥) → (y ≡ v → ⊥) → squeezed v x ≡ squeezed v y → x ≡ y
squeezed_same v x y apart other same = by (squeezed_cases v x apart) (squeezed_cases v y other)
  where
    by : ((v < x) × (suc (squeezed v x) ≡ x)) ⊎ ((x < v) × (squeezed v x ≡ x)) → ((v < y) × (suc (squeezed v y) ≡ y)) ⊎ ((y < v) × (squeezed v y ≡ y)) → x ≡ y
    by (inl (l, e)) (inl (m, f)) = omega (arith, l, e, m, f, same)
    by (inl (l, e)) (inr (m, f)) = omega (arith, l, e, m, f, same)
    by (inr (l, e)) (inl (m, f)) = omega (arith, l, e, m, f, same)
    by (inr (l, e)) (inr (m, f)) = omega (arith, l, e, m, f, same)

squeezed_below : (n v x : ℕ) → v < suc n → x < suc n → (x ≡ v → ⊥) → squeezed v x < n
squeezed_below n v x low less apart = elim (squeezed_cases v x apart) [ inl t ↦ omega (arith, t.0, t.1, low, less) | inr t ↦ omega (arith, t.0, t.1, low, less) ]

found : (f : ℕ → ℕ) (v m : ℕ) → ((i : ℕ) × (i < m) × (f i ≡ v)) ⊎ ((i : ℕ) → i < m → f i ≡ v → ⊥)
found f v zero = inr (λ i low e. absurd (omega (arith, low)))
found f v (suc m) = elim (eqb_tells (f m) v) [
  | inl t ↦ inl (m, omega arith, t.1)
  | inr t ↦ elim (found f v m) [
    | inl at ↦ inl (at.0, (let l = at.1 in omega (arith, l)), at.2)
    | inr none ↦ inr (λ i low e. elim (leb_tells m i) [ inl u ↦ t.1 (ap f (let g : m ≡ i = omega (arith, low, u.1) in g) ∙ e) | inr u ↦ none i u.1 e ])
  ]
]

pub two_alike : (n : ℕ) (f : ℕ → ℕ) → ((i : ℕ) → i < suc n → f i < n) → (i : ℕ) × (j : ℕ) × (i < j) × (j < suc n) × (f i ≡ f j)
two_alike zero f below = let l : f 0 < 0 = below 0 (omega arith) in absurd (omega (arith, l))
two_alike (suc n) f below = elim (found f (f (suc n)) (suc n)) [
  | inl at ↦ (at.0, suc n, at.1, omega arith, at.2)
  | inr none ↦
      let (i, j, less, low, same) = two_alike n (λ i. squeezed (f (suc n)) (f i)) (λ i l. squeezed_below n (f (suc n)) (f i) (below (suc n) (omega arith)) (below i (omega (arith, l))) (none i l)) in
      (i, j, less, omega (arith, low), squeezed_same (f (suc n)) (f i) (f j) (none i (omega (arith, less, low))) (none j low) same)
]
