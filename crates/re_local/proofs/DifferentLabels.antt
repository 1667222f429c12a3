-- Lists in which nothing stands twice.
use Rattle.std.proofs.Common.{◌≡◌, ℕ, suc, ◌≤◌, ◌<◌, Bool, true, false, cond, eqb, List, [], ◌∷◌, filter, length, refl, sym, ap, subst, arith, inl, inr}
use Rattle.std.specs.Prelude.{Contains, not}
use Rattle.re_labels.proofs.Rearranging.{Contains-Rearranged, Rearranged-sym}
use Rattle.re_labels.specs.Rearranging.{Rearranged, chained, kept, swapped, unmoved}
use Rattle.re_labels.proofs.Before.{three_ways}
use Rattle.re_labels.proofs.Membership.{Contains-cases, Contains-filter, Contains-filter_cases, Contains-here, Contains-later, Contains-none, Distinct}
use Rattle.re_labels.proofs.Sets.{IsIn-has, has-IsIn}
use Rattle.re_labels.proofs.Tests.{eqb-apart, eqb-same, eqb-true}
use Rattle.re_labels.specs.Lists.{IsRising}
use Rattle.re_labels.specs.Sets.{has}

-- ---- without one label
-- the list without a label
abbrev pub left : ℕ → List ℕ → List ℕ
left x xs = filter (λ v. not (eqb v x)) xs

pub left_cases : (x v : ℕ) (xs : List ℕ) → Contains (left x xs) v → Contains xs v × (v ≡ x → ⊥)
left_cases x v xs held =
    let (there, passes) = Contains-filter_cases (λ v. not (eqb v x)) xs v held in
    (there, λ e. (let one : eqb v x ≡ true = subst (λ w. eqb v w ≡ true) e (eqb-same v) in absurd (cc)))

pub left_held : (x v : ℕ) (xs : List ℕ) → Contains xs v → (v ≡ x → ⊥) → Contains (left x xs) v
left_held x v xs held other = Contains-filter (λ v. not (eqb v x)) xs v held (ap not (eqb-apart v x other))

Distinct-filter : (test : ℕ → Bool) (xs : List ℕ) → Distinct xs → Distinct (filter test xs)
Distinct-filter test [] d = tt
Distinct-filter test (x ∷ xs) d = at (test x) (Distinct-filter test xs d.1)
  where
    at : (b : Bool) → Distinct (filter test xs) → Distinct (cond b (x ∷ filter test xs) (filter test xs))
    at true rest = (λ held. d.0 (Contains-filter_cases test xs x held).0, rest)
    at false rest = rest

left_all : (x : ℕ) (xs : List ℕ) → (Contains xs x → ⊥) → length (left x xs) ≡ length xs
left_all x [] none = refl
left_all x (y ∷ xs) none = at (eqb y x) refl (left_all x xs (λ held. none (Contains-later x y xs held)))
  where
    at : (b : Bool) → eqb y x ≡ b → length (left x xs) ≡ length xs → length (cond (not b) (y ∷ left x xs) (left x xs)) ≡ suc (length xs)
    at true e rest = absurd (none (subst (Contains (y ∷ xs)) (eqb-true y x e) (Contains-here y xs)))
    at false e rest = ap suc rest

-- without one of its labels a list has one less
pub left_less : (x : ℕ) (xs : List ℕ) → Distinct xs → Contains xs x → suc (length (left x xs)) ≡ length xs
left_less x [] d held = absurd (Contains-none x held)
left_less x (y ∷ xs) d held = at (eqb y x) refl (λ later. left_less x xs d.1 later)
  where
    at : (b : Bool) → eqb y x ≡ b → (Contains xs x → suc (length (left x xs)) ≡ length xs)
        → suc (length (cond (not b) (y ∷ left x xs) (left x xs))) ≡ suc (length xs)
    at true e rest = ap suc (left_all x xs (λ later. d.0 (subst (Contains xs) (sym (eqb-true y x e)) later)))
    at false e rest = elim (Contains-cases x y xs held) [
      | inl same ↦ absurd (let one : eqb y x ≡ true = subst (λ w. eqb y w ≡ true) (sym same) (eqb-same y) in cc)
      | inr later ↦ ap suc (rest later)
    ]

left_most : (x : ℕ) (xs : List ℕ) → Distinct xs → length xs ≤ suc (length (left x xs))
left_most x xs d = at (has xs x) refl
  where
    at : (b : Bool) → has xs x ≡ b → length xs ≤ suc (length (left x xs))
    at true e = let one = left_less x xs d (has-IsIn xs x e) in omega (arith, one)
    at false e = let all = left_all x xs (λ held. (let found : has xs x ≡ true = IsIn-has xs x held in absurd (cc))) in omega (arith, all)

-- one of different labels that is none of fewer taken ones
pub fresh : (taken set : List ℕ) → Distinct set → length taken < length set → (z : ℕ) × Contains set z × (Contains taken z → ⊥)
fresh [] [] d l = absurd (omega arith)
fresh [] (z ∷ set) d l = (z, Contains-here z set, Contains-none z)
fresh (t ∷ taken) set d l =
    let most : length set ≤ suc (length (left t set)) = left_most t set d in
    let (z, held, none) = fresh taken (left t set) (Distinct-filter (λ v. not (eqb v t)) set d) (omega (arith, l, most)) in
    let (there, other) = left_cases t z set held in
    (z, there, λ at. elim (Contains-cases z t taken at) [ inl e ↦ other e | inr later ↦ none later ])

-- ---- in order
pub Distinct-Rearranged : {xs ys : List ℕ} → Rearranged xs ys → Distinct xs → Distinct ys
Distinct-Rearranged unmoved d = tt
Distinct-Rearranged (kept {x = x} h) d = (λ at. d.0 (Contains-Rearranged x (Rearranged-sym h) at), Distinct-Rearranged h d.1)
Distinct-Rearranged (swapped {x = x} {y = y} {xs = xs}) d =
    (λ at. elim (Contains-cases y x xs at) [ inl e ↦ d.0 (subst (Contains (y ∷ xs)) e (Contains-here y xs)) | inr there ↦ d.1.0 there ], (λ at. d.0 (Contains-later x y xs at), d.1.1))
Distinct-Rearranged (chained h i) d = Distinct-Rearranged i (Distinct-Rearranged h d)

pub rising_strictly : (xs : List ℕ) → IsRising (λ x y. x ≤ y) xs → Distinct xs → IsRising (λ x y. x < y) xs
rising_strictly [] h d = tt
rising_strictly (x ∷ []) h d = tt
rising_strictly (x ∷ y ∷ xs) h d =
    let apart : x ≡ y → ⊥ = λ e. d.0 (subst (Contains (y ∷ xs)) (sym e) (Contains-here y xs)) in
    let low : x ≤ y = h.0 in
    (below low apart, rising_strictly (y ∷ xs) h.1 d.1)
  where
    below : x ≤ y → (x ≡ y → ⊥) → x < y
    below low apart = elim (three_ways x y) [ inl l ↦ l | inr (inl e) ↦ absurd (apart e) | inr (inr l) ↦ absurd (omega (arith, l, low)) ]
