-- The set of labels of a list, which is as long as the list where nothing stands twice.
use Rattle.std.proofs.Common.{◌≡◌, ℕ, suc, ◌≤◌, ◌<◌, Bool, true, false, cond, eqb, ltb, List, [], ◌∷◌, length, refl, sym, ◌∙◌, subst, arith, inl, inr}
use Rattle.std.specs.Prelude.{Contains}
use Rattle.re_labels.proofs.Replacing.{Contains-support_of, length-support_of_most, length-with_label_most, rising-support_of}
use Rattle.re_labels.specs.Configs.{support_of}
use Rattle.re_given.proofs.Colourings.{first_below}
use Rattle.re_labels.proofs.Membership.{Contains-cases, Contains-none, Distinct}
use Rattle.re_labels.proofs.Numbers.{rising_tail}
use Rattle.re_labels.proofs.Tests.{below-true, eqb-same}
use Rattle.re_labels.specs.Lists.{IsRising}
use Rattle.re_labels.specs.Sets.{with_label}

with_label-again : (s : List ℕ) (x : ℕ) → IsRising (λ x y. x < y) s → Contains s x → length (with_label s x) ≤ length s
with_label-again [] x rises held = absurd (Contains-none x held)
with_label-again (y ∷ s) x rises held = at (ltb x y) (eqb x y) refl refl (λ later. with_label-again s x (rising_tail y s rises) later)
  where
    at : (b c : Bool) → ltb x y ≡ b → eqb x y ≡ c → (Contains s x → length (with_label s x) ≤ length s)
        → length (cond b (x ∷ y ∷ s) (cond c (y ∷ s) (y ∷ with_label s x))) ≤ suc (length s)
    at true c e f rest = let l : x < y = below-true x y e in elim (Contains-cases x y s held) [
      | inl same ↦ absurd (omega (arith, l, same))
      | inr later ↦ absurd (let m = first_below y s rises x later in omega (arith, l, m))
    ]
    at false true e f rest = omega arith
    at false false e f rest = elim (Contains-cases x y s held) [
      | inl same ↦ absurd (let one : eqb x y ≡ true = subst (λ w. eqb x w ≡ true) same (eqb-same x) in cc)
      | inr later ↦ (let fewer = rest later in omega (arith, fewer))
    ]

-- as many labels as places: none stands twice
pub Distinct-support : (xs : List ℕ) → length (support_of xs) ≡ length xs → Distinct xs
Distinct-support [] e = tt
Distinct-support (x ∷ xs) e =
    let most = length-support_of_most xs in
    let one = length-with_label_most (support_of xs) x in (
      λ held. (let again = with_label-again (support_of xs) x (rising-support_of xs) (Contains-support_of xs x held) in absurd (omega (arith, again, most, e))),
      Distinct-support xs (omega (arith, most, one, e)),
    )

-- one label: all are it
pub alike_support : (xs : List ℕ) (y z : ℕ) → length (support_of xs) ≡ 1 → Contains xs y → Contains xs z → y ≡ z
alike_support xs y z e held held' = one (support_of xs) e (Contains-support_of xs y held) (Contains-support_of xs z held')
  where
    one : (s : List ℕ) → length s ≡ 1 → Contains s y → Contains s z → y ≡ z
    one [] f at at' = absurd (omega (arith, f))
    one (w ∷ []) f at at' = elim (Contains-cases y w [] at) [
      | inl e ↦ elim (Contains-cases z w [] at') [ inl e' ↦ e ∙ sym e' | inr none ↦ absurd (Contains-none z none) ]
      | inr none ↦ absurd (Contains-none y none)
    ]
    one (w ∷ v ∷ s) f at at' = absurd (omega (arith, f))
