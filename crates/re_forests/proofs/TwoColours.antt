-- 2-colouring of paths: no set of its labels is flexible, as its walks have a parity.
use Rattle.std.proofs.Common.{◌≡◌, ℕ, zero, suc, ◌+◌, ◌*◌, ◌≤◌, ◌<◌, Bool, true, false, List, [], ◌∷◌, get_or, refl, sym, ap, ◌∙◌, subst, arith, inl, inr, ◌⊎◌}
use Rattle.std.specs.Prelude.{Contains}
use Rattle.std.specs.List.{AllByRecursion}
use Rattle.re_labels.proofs.Rearranging.{Contains-Rearranged}
use Rattle.re_labels.proofs.Sorting.{Rearranged-sorted}
use Rattle.re_labels.specs.Configs.{sorted}
use Rattle.re_forests.proofs.LabelsOnPaths.{has_length}
use Rattle.re_forests.proofs.FastPaths.{paths}
use Rattle.re_forests.specs.TwoColours.{two_colours}
use Rattle.re_forests.specs.Flexible.{IsFlexible, Leads, side}
use Rattle.re_forests.specs.OnForests.{SolvableOnForests}
use Rattle.re_forests.specs.Trimmed.{IsTrimmed}
use Rattle.re_labels.proofs.Membership.{Contains-cases, Contains-here, Contains-later, Contains-none}
use Rattle.re_problem.specs.Problems.{IsProblem}
use Rattle.re_labels.specs.Constraints.{Has}

pub two_colours_is : IsProblem two_colours
two_colours_is = record {
  active = record {
    least = omega arith;
    most = omega arith;
    configs = (record { count = refl; below = (omega arith, (omega arith, tt)); ascends = (omega arith, tt) }, (record { count = refl; below = (omega arith, (omega arith, tt)); ascends = (omega arith, tt) }, tt));
    ascends = (refl, tt);
  };
  passive = record {
    least = omega arith;
    most = omega arith;
    configs = (record { count = refl; below = (omega arith, (omega arith, tt)); ascends = (omega arith, tt) }, tt);
    ascends = tt;
  };
}

both_same : (x y c : ℕ) (rest : List ℕ) → sorted (x ∷ y ∷ rest) ≡ c ∷ c ∷ [] → (x ≡ c) × (y ≡ c)
both_same x y c rest e = (one x (Contains-here x (y ∷ rest)), one y (Contains-later y x (y ∷ rest) (Contains-here y rest)))
  where
    one : (z : ℕ) → Contains (x ∷ y ∷ rest) z → z ≡ c
    one z held = elim (Contains-cases z c (c ∷ []) (subst (λ l. Contains l z) e (Contains-Rearranged z (Rearranged-sorted (x ∷ y ∷ rest)) held))) [
      | inl same ↦ same
      | inr there ↦ elim (Contains-cases z c [] there) [ inl same ↦ same | inr none ↦ absurd (Contains-none z none) ]
    ]

-- around active nodes
active_same : (x y : ℕ) (rest : List ℕ) → Has (side two_colours true) (x ∷ y ∷ rest) → x ≡ y
active_same x y rest (zero, l, e) = let (a, b) = both_same x y 0 rest (sym e) in a ∙ sym b
active_same x y rest (suc zero, l, e) = let (a, b) = both_same x y 1 rest (sym e) in a ∙ sym b
active_same x y rest (suc (suc k), l, e) = absurd (omega (arith, l))

zero_or_one : (x y : ℕ) (rest : List ℕ) (z : ℕ) → sorted (x ∷ y ∷ rest) ≡ 0 ∷ 1 ∷ [] → Contains (x ∷ y ∷ rest) z → (z ≡ 0) ⊎ (z ≡ 1)
zero_or_one x y rest z e held = elim (Contains-cases z 0 (1 ∷ []) (subst (λ l. Contains l z) e (Contains-Rearranged z (Rearranged-sorted (x ∷ y ∷ rest)) held))) [
  | inl same ↦ inl same
  | inr there ↦ elim (Contains-cases z 1 [] there) [ inl same ↦ inr same | inr none ↦ absurd (Contains-none z none) ]
]

-- around passive nodes
passive_other : (x y : ℕ) (rest : List ℕ) → Has (side two_colours false) (x ∷ y ∷ rest) → x + y ≡ 1
passive_other x y rest (suc k, l, e) = absurd (omega (arith, l))
passive_other x y (z ∷ rest) (zero, l, e) = absurd (let f = has_length 2 (side two_colours false) two_colours_is.passive (x ∷ y ∷ z ∷ rest) (zero, l, e) in omega (arith, f))
passive_other x y [] (zero, l, e) = by (zero_or_one x y [] x (sym e) (Contains-here x (y ∷ []))) (zero_or_one x y [] y (sym e) (Contains-later y x (y ∷ []) (Contains-here y [])))
  where
    pair : (u v : ℕ) → x ≡ u → y ≡ v → 0 ∷ 1 ∷ [] ≡ sorted (u ∷ v ∷ [])
    pair u v f g = e ∙ (ap (λ z. sorted (z ∷ y ∷ [])) f ∙ ap (λ z. sorted (u ∷ z ∷ [])) g)

    by : (x ≡ 0) ⊎ (x ≡ 1) → (y ≡ 0) ⊎ (y ≡ 1) → x + y ≡ 1
    by (inl f) (inl g) = absurd (let h : 1 ≡ 0 = ap (λ l. get_or l 1 0) (pair 0 0 f g) in omega (arith, h))
    by (inl f) (inr g) = omega (arith, f, g)
    by (inr f) (inl g) = omega (arith, f, g)
    by (inr f) (inr g) = absurd (let h : 0 ≡ 1 = ap (λ l. get_or l 0 0) (pair 1 1 f g) in omega (arith, h))

-- how many of so many nodes in turn are passive
abbrev passives : Bool → ℕ → ℕ
passives active zero = zero
passives true (suc m) = passives false m
passives false (suc m) = suc (passives true m)

passives_even : (active : Bool) (k : ℕ) → passives active (2 * k) ≡ k
passives_even active zero = refl
passives_even true (suc k) = ap (passives true) (let e : 2 * suc k ≡ suc (suc (2 * k)) = omega arith in e) ∙ ap suc (passives_even true k)
passives_even false (suc k) = ap (passives false) (let e : 2 * suc k ≡ suc (suc (2 * k)) = omega arith in e) ∙ ap suc (passives_even false k)

walk_parity : (set : List ℕ) (active : Bool) (m x y : ℕ) → Leads two_colours set active m x y → (c : ℕ) × (d : ℕ) × (x + passives active m + 2 * c ≡ y + 2 * d)
walk_parity set active zero x y same = (0, 0, omega (arith, same))
walk_parity set true (suc m) x y (z, held, (rest, _, has), walk) =
    let (c, d, e) = walk_parity set false m z y walk in
    let f : x ≡ z = active_same x z rest has in
    (c, d, omega (arith, e, f))
walk_parity set false (suc m) x y (z, held, (rest, _, has), walk) =
    let (c, d, e) = walk_parity set true m z y walk in
    let f : x + z ≡ 1 = passive_other x z rest has in
    (c + z, suc d, omega (arith, e, f))

pub none_flexible : (set : List ℕ) (k : ℕ) → IsFlexible two_colours set k → ⊥
none_flexible set k flexible =
    let (x, held) = flexible.some in
    let (a, b, e) = walk_parity set true (suc (2 * k)) x x (flexible.leads true x x held held) in
    let (c, d, f) = walk_parity set false (suc (2 * k)) x x (flexible.leads false x x held held) in
    let g : passives false (2 * k) ≡ k = passives_even false k in
    let h : passives true (2 * k) ≡ k = passives_even true k in
    omega (arith, e, f, g, h)

pub not_fast : (M : ℕ) × ((N T : ℕ) → M * (T + 4) ≤ N → SolvableOnForests two_colours N T → ⊥)
not_fast =
    let (M, found) = paths two_colours two_colours_is refl refl in
    (M, λ N T enough solvable. (let (set, k, flexible) = found N T enough solvable in none_flexible set k flexible))

colour_held : (c : ℕ) → c < 2 → Contains (0 ∷ 1 ∷ []) c
colour_held zero low = Contains-here 0 (1 ∷ [])
colour_held (suc zero) low = Contains-later 1 0 (1 ∷ []) (Contains-here 1 [])
colour_held (suc (suc c)) low = absurd (omega (arith, low))

pub two_colours_trimmed : IsTrimmed two_colours (0 ∷ 1 ∷ [])
two_colours_trimmed = goes_on
  where
    goes_on : (active : Bool) (x : ℕ) → Contains (0 ∷ 1 ∷ []) x → (y : ℕ) × Contains (0 ∷ 1 ∷ []) y × ((rest : List ℕ) × AllByRecursion (λ z. Contains (0 ∷ 1 ∷ []) z) rest × Has (side two_colours active) (x ∷ y ∷ rest))
    goes_on true zero held = (0, colour_held 0 (omega arith), ([], tt, (0, omega arith, refl)))
    goes_on true (suc zero) held = (1, colour_held 1 (omega arith), ([], tt, (1, omega arith, refl)))
    goes_on false zero held = (1, colour_held 1 (omega arith), ([], tt, (0, omega arith, refl)))
    goes_on false (suc zero) held = (0, colour_held 0 (omega arith), ([], tt, (0, omega arith, refl)))
    goes_on active (suc (suc x)) held = absurd (beyond x held)
      where
        beyond : (x : ℕ) → Contains (0 ∷ 1 ∷ []) (suc (suc x)) → ⊥
        beyond x (zero, l, e) = absurd (omega (arith, e))
        beyond x (suc zero, l, e) = absurd (omega (arith, e))
        beyond x (suc (suc k), l, e) = absurd (omega (arith, l))
