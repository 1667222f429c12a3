-- Path networks: n nodes with different identifiers, active and passive in turn, of which each one's neighbours stand in the order of their
-- identifiers.
use Rattle.std.proofs.Common.{◌≡◌, ℕ, zero, suc, ◌≤◌, ◌<◌, Bool, true, false, List, [], ◌∷◌, refl, sym, ap, ◌∙◌, subst, arith, inl, inr, ◌⊎◌}
use Rattle.std.specs.Prelude.{Contains, ◌==◌, if◌then◌else◌, nat_le}
use Rattle.std.proofs.lemmas.Bool.Decides.{eqb_tells, leb_tells}
use Rattle.re_forests.proofs.Leads.{after}
use Rattle.re_labels.proofs.Membership.{Contains-cases, Contains-here, Contains-later, Contains-none}
use Rattle.re_labels.proofs.Tests.{eqb-same}
use Rattle.re_layers.specs.Networks.{AreDifferent, Network}

-- ---- the network
-- two in ascending order
abbrev pub ordered : ℕ → ℕ → List ℕ
ordered a b = if nat_le a b then a ∷ b ∷ [] else b ∷ a ∷ []

pub ordered_is : (a b : ℕ) → (ordered a b ≡ a ∷ b ∷ []) ⊎ (ordered a b ≡ b ∷ a ∷ [])
ordered_is a b = elim (leb_tells a b) [ inl t ↦ inl (rw t.0) | inr t ↦ inr (rw t.0) ]

pub ordered_low : (a b : ℕ) → a ≤ b → ordered a b ≡ a ∷ b ∷ []
ordered_low a b l = elim (leb_tells a b) [ inl t ↦ rw t.0 | inr t ↦ absurd (omega (arith, t.1)) ]

pub ordered_high : (a b : ℕ) → b < a → ordered a b ≡ b ∷ a ∷ []
ordered_high a b l = elim (leb_tells a b) [ inl t ↦ absurd (omega (arith, t.1)) | inr t ↦ rw t.0 ]

-- the last place below n at which id has v, or 0
abbrev pub place : (ℕ → ℕ) → ℕ → ℕ → ℕ
place id zero v = zero
place id (suc n) v = if id n == v then n else place id n v

-- the identifiers of the nodes beside that at place p
abbrev pub beside : (ℕ → ℕ) → ℕ → ℕ → List ℕ
beside id n zero = id 1 ∷ []
beside id n (suc p) = if nat_le (suc (suc (suc p))) n then ordered (id p) (id (suc (suc p))) else id p ∷ []

-- the path through the nodes id 0, .. id (n - 1), of which the first is of this kind
abbrev pub path_network : (ℕ → ℕ) → ℕ → Bool → Network
path_network id n active = record {
  active = λ v. after active (place id n v);
  near = λ v. if id (place id n v) == v then beside id n (place id n v) else [];
}

module _ (id : ℕ → ℕ) (n : ℕ) (first : Bool) (two : 2 ≤ n) (different : (p q : ℕ) → p < n → q < n → id p ≡ id q → p ≡ q) where
  abbrev G : Network
  G = path_network id n first

  place_in : (m p : ℕ) → m ≤ n → p < m → place id m (id p) ≡ p
  place_in zero p l low = absurd (omega arith)
  place_in (suc m) p l low = elim (eqb_tells (id m) (id p)) [
    | inl t ↦ rw t.0 (different m p (omega arith) (omega arith) t.1)
    | inr t ↦ rw t.0 (place_in m p (omega arith) (other t.1))
  ]
    where
      other : (id m ≡ id p → ⊥) → p < m
      other apart = elim (leb_tells m p) [ inl s ↦ absurd (apart (ap id (let e : m ≡ p = omega (arith, s.1, low) in e))) | inr s ↦ s.1 ]

  pub place_of : (p : ℕ) → p < n → place id n (id p) ≡ p
  place_of p low = place_in n p (omega arith) low

  pub place_below : (m v : ℕ) → 1 ≤ m → place id m v < m
  place_below zero v some = absurd (omega arith)
  place_below (suc m) v some = by (id m == v)
    where
      less : (m : ℕ) → place id m v ≤ m
      less zero = omega arith
      less (suc m) = elim (eqb_tells (id m) v) [ inl t ↦ rw t.0 (omega arith) | inr t ↦ (let l : place id m v ≤ m = less m in rw t.0 (omega arith)) ]

      by : (b : Bool) → (if b then m else place id m v) < suc m
      by true = omega arith
      by false = omega (arith, less m)

  pub active_at : (p : ℕ) → p < n → G.active (id p) ≡ after first p
  active_at p low = ap (after first) (place_of p low)

  pub near_at : (p : ℕ) → p < n → G.near (id p) ≡ beside id n p
  near_at p low = rw (place_of p low, eqb-same (id p)) refl

  -- within the path
  pub near_within : (p : ℕ) → suc (suc p) < n → G.near (id (suc p)) ≡ ordered (id p) (id (suc (suc p)))
  near_within p low = near_at (suc p) (omega arith) ∙ elim (leb_tells (suc (suc (suc p))) n) [ inl t ↦ rw t.0 | inr t ↦ absurd (omega (arith, t.1)) ]

  -- ---- neighbours
  abbrev pub Beside : ℕ → ℕ → Type 0
  Beside p w = (q : ℕ) × (q < n) × (w ≡ id q) × ((q ≡ suc p) ⊎ (p ≡ suc q))

  beside_cases : (p w : ℕ) → p < n → Contains (beside id n p) w → Beside p w
  beside_cases zero w low held = elim (Contains-cases w (id 1) [] held) [ inl e ↦ (1, omega arith, e, inl (omega arith)) | inr none ↦ absurd (Contains-none w none) ]
  beside_cases (suc p) w low held = by (nat_le (suc (suc (suc p))) n) (leb_tells (suc (suc (suc p))) n) held
    where
      before : w ≡ id p → Beside (suc p) w
      before e = (p, omega arith, e, inr refl)

      behind : suc (suc (suc p)) ≤ n → w ≡ id (suc (suc p)) → Beside (suc p) w
      behind l e = (suc (suc p), omega arith, e, inl refl)

      pair : suc (suc (suc p)) ≤ n → (b : Bool) → Contains (if b then id p ∷ id (suc (suc p)) ∷ [] else id (suc (suc p)) ∷ id p ∷ []) w → Beside (suc p) w
      pair l true held = elim (Contains-cases w (id p) (id (suc (suc p)) ∷ []) held) [
        | inl e ↦ before e
        | inr there ↦ elim (Contains-cases w (id (suc (suc p))) [] there) [ inl e ↦ behind l e | inr none ↦ absurd (Contains-none w none) ]
      ]
      pair l false held = elim (Contains-cases w (id (suc (suc p))) (id p ∷ []) held) [
        | inl e ↦ behind l e
        | inr there ↦ elim (Contains-cases w (id p) [] there) [ inl e ↦ before e | inr none ↦ absurd (Contains-none w none) ]
      ]

      by : (b : Bool) → ((b ≡ true) × (suc (suc (suc p)) ≤ n)) ⊎ ((b ≡ false) × (n < suc (suc (suc p)))) → Contains (if b then ordered (id p) (id (suc (suc p))) else id p ∷ []) w → Beside (suc p) w
      by true (inl t) held = pair t.1 (nat_le (id p) (id (suc (suc p)))) held
      by true (inr t) held = absurd (let e = t.0 in cc)
      by false t held = elim (Contains-cases w (id p) [] held) [ inl e ↦ before e | inr none ↦ absurd (Contains-none w none) ]

  pub near_cases : (v w : ℕ) → Contains (G.near v) w → (p : ℕ) × (p < n) × (v ≡ id p) × Beside p w
  near_cases v w held = by (id (place id n v) == v) (eqb_tells (id (place id n v)) v) held
    where
      by : (b : Bool) → ((b ≡ true) × (id (place id n v) ≡ v)) ⊎ ((b ≡ false) × (id (place id n v) ≡ v → ⊥)) → Contains (if b then beside id n (place id n v) else []) w
          → (p : ℕ) × (p < n) × (v ≡ id p) × Beside p w
      by true (inl t) held = (place id n v, place_below n v (omega arith), sym t.1, beside_cases (place id n v) w (place_below n v (omega arith)) held)
      by true (inr t) held = absurd (let e = t.0 in cc)
      by false t held = absurd (Contains-none w held)

  pub near_of : (p w : ℕ) → p < n → Contains (G.near (id p)) w → Beside p w
  near_of p w low held = beside_cases p w low (subst (λ l. Contains l w) (near_at p low) held)

  pub near_has : (p q : ℕ) → p < n → q < n → (q ≡ suc p) ⊎ (p ≡ suc q) → Contains (G.near (id p)) (id q)
  near_has p q low there (inr e) =
      subst (λ r. Contains (G.near (id r)) (id q)) (sym e) (subst (λ l. Contains l (id q)) (sym (near_at (suc q) (omega arith))) (by (nat_le (suc (suc (suc q))) n)))
    where
      pair : (b : Bool) → Contains (if b then id q ∷ id (suc (suc q)) ∷ [] else id (suc (suc q)) ∷ id q ∷ []) (id q)
      pair true = Contains-here (id q) (id (suc (suc q)) ∷ [])
      pair false = Contains-later (id q) (id (suc (suc q))) (id q ∷ []) (Contains-here (id q) [])

      by : (b : Bool) → Contains (if b then ordered (id q) (id (suc (suc q))) else id q ∷ []) (id q)
      by true = pair (nat_le (id q) (id (suc (suc q))))
      by false = Contains-here (id q) []
  near_has zero q low there (inl e) = subst (λ r. Contains (G.near (id zero)) (id r)) (sym e) (subst (λ l. Contains l (id 1)) (sym (near_at zero low)) (Contains-here (id 1) []))
  near_has (suc p) q low there (inl e) =
      subst (λ r. Contains (G.near (id (suc p))) (id r)) (sym e) (subst (λ l. Contains l (id (suc (suc p)))) (sym (near_within p (omega arith))) (pair (nat_le (id p) (id (suc (suc p))))))
    where
      pair : (b : Bool) → Contains (if b then id p ∷ id (suc (suc p)) ∷ [] else id (suc (suc p)) ∷ id p ∷ []) (id (suc (suc p)))
      pair true = Contains-later (id (suc (suc p))) (id p) (id (suc (suc p)) ∷ []) (Contains-here (id (suc (suc p))) [])
      pair false = Contains-here (id (suc (suc p))) (id p ∷ [])

  beside_different : (p : ℕ) → p < n → AreDifferent (beside id n p)
  beside_different zero low = (λ held. Contains-none (id 1) held, tt)
  beside_different (suc p) low = elim (leb_tells (suc (suc (suc p))) n) [
    | inl t ↦ rw t.0 (elim (ordered_is (id p) (id (suc (suc p)))) [ inl e ↦ subst AreDifferent (sym e) (apart t.1, (λ held. Contains-none (id (suc (suc p))) held, tt)) | inr e ↦ subst AreDifferent (sym e) (apart' t.1, (λ held. Contains-none (id p) held, tt)) ])
    | inr t ↦ rw t.0 (λ held. Contains-none (id p) held, tt)
  ]
    where
      same : suc (suc (suc p)) ≤ n → id p ≡ id (suc (suc p)) → ⊥
      same l e = (let f : p ≡ suc (suc p) = different p (suc (suc p)) (omega arith) (omega arith) e in absurd (omega (arith, f)))

      apart : suc (suc (suc p)) ≤ n → Contains (id (suc (suc p)) ∷ []) (id p) → ⊥
      apart l held = elim (Contains-cases (id p) (id (suc (suc p))) [] held) [ inl e ↦ same l e | inr none ↦ Contains-none (id p) none ]

      apart' : suc (suc (suc p)) ≤ n → Contains (id p ∷ []) (id (suc (suc p))) → ⊥
      apart' l held = elim (Contains-cases (id (suc (suc p))) (id p) [] held) [ inl e ↦ same l (sym e) | inr none ↦ Contains-none (id (suc (suc p))) none ]

  pub near_different : (p : ℕ) → p < n → AreDifferent (G.near (id p))
  near_different p low = subst AreDifferent (sym (near_at p low)) (beside_different p low)
