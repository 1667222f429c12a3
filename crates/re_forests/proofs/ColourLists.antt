-- Lists of colours that may stand around the nodes of a properly coloured tree: one colour around an active node, different ones around a passive one.
use Rattle.std.proofs.Common.{◌≡◌, ℕ, zero, suc, ◌+◌, ◌≤◌, ◌<◌, List, ◌∷◌, map, refl, sym, ◌∙◌, ap, subst, arith, inl, inr}
use Rattle.std.specs.Prelude.{Contains, replicate}
use Rattle.re_labels.proofs.Rearranging.{Contains-Rearranged, Rearranged-sym}
use Rattle.re_labels.proofs.Sorting.{AllByRecursion-Rearranged, Rearranged-sorted, length-sorted, sorted_again, sorted_rises}
use Rattle.re_labels.specs.Configs.{sorted}
use Rattle.re_labels.specs.Rearranging.{Rearranged, chained, kept, swapped, unmoved}
use Rattle.re_labels.proofs.Replicated.{alike_rise}
use Rattle.re_given.proofs.Colourings.{colour_there, colours_there}
use Rattle.re_given.specs.Unavoidable.{colouring}
use Rattle.re_labels.specs.Lists.{count_from}
use Rattle.re_laws.proofs.Ports.{AllByRecursion-count, length-ports}
use Rattle.re_labels.proofs.Membership.{Contains-cases, Contains-here, Contains-later, Contains-none}
use Rattle.re_layers.specs.Networks.{AreDifferent}
use Rattle.re_labels.specs.Constraints.{Has}
use Rattle.re_local.proofs.ColouredLocal.{rising_strictly}

-- ---- one colour
pub map-one : (f : ℕ → ℕ) (x i n : ℕ) → ((k : ℕ) → f k ≡ x) → map f (count_from i n) ≡ replicate n x
map-one f x i zero each = refl
map-one f x i (suc n) each = ap (λ y. y ∷ map f (count_from (suc i) n)) (each i) ∙ ap (λ ys. x ∷ ys) (map-one f x (suc i) n each)

pub one_there : (a p c x : ℕ) (f : ℕ → ℕ) → 1 ≤ a → x < c → ((k : ℕ) → f k ≡ x) → Has (colouring a p c).active (map f (count_from 0 a))
one_there a p c x f some low each =
    subst (Has (colouring a p c).active) (sym (map-one f x 0 a each))
    (subst (Contains (colouring a p c).active.configs) (sym (sorted_again (replicate a x) (alike_rise a x))) (colour_there a p c x some low))

-- ---- different colours
different-Rearranged : {xs ys : List ℕ} → Rearranged xs ys → AreDifferent xs → AreDifferent ys
different-Rearranged unmoved apart = apart
different-Rearranged (kept {x = x} rest) apart = (λ held. apart.0 (Contains-Rearranged x (Rearranged-sym rest) held), different-Rearranged rest apart.1)
different-Rearranged (swapped {x = x} {y = y} {xs = xs}) apart = (
  λ held. elim (Contains-cases y x xs held) [ inl e ↦ apart.0 (subst (Contains (y ∷ xs)) e (Contains-here y xs)) | inr later ↦ apart.1.0 later ],
  (λ held. apart.0 (Contains-later x y xs held), apart.1.1),
)
different-Rearranged (chained first next) apart = different-Rearranged next (different-Rearranged first apart)

counted : (f : ℕ → ℕ) (i n y : ℕ) → Contains (map f (count_from i n)) y → (k : ℕ) × (i ≤ k) × (k < i + n) × (y ≡ f k)
counted f i zero y held = absurd (Contains-none y held)
counted f i (suc n) y held = elim (Contains-cases y (f i) (map f (count_from (suc i) n)) held) [
  | inl e ↦ (i, omega arith, omega arith, e)
  | inr later ↦ (let (k, low, high, e) = counted f (suc i) n y later in (k, omega (arith, low), omega (arith, high), e))
]

different-count : (f : ℕ → ℕ) (i n : ℕ) → ((j k : ℕ) → j < k → k < i + n → f j ≡ f k → ⊥) → AreDifferent (map f (count_from i n))
different-count f i zero apart = tt
different-count f i (suc n) apart = (
  λ held. (let (k, low, high, e) = counted f (suc i) n (f i) held in apart i k (omega (arith, low)) (omega (arith, high)) e),
  different-count f (suc i) n (λ j k less l. apart j k less (omega (arith, l))),
)

pub different_there : (a p c : ℕ) (f : ℕ → ℕ) → ((k : ℕ) → k < p → f k < c) → ((j k : ℕ) → j < k → k < p → f j ≡ f k → ⊥) → Has (colouring a p c).passive (map f (count_from 0 p))
different_there a p c f below apart =
    let xs = map f (count_from 0 p) in
    let moved : Rearranged xs (sorted xs) = Rearranged-sorted xs in
    colours_there a p c (sorted xs) (length-sorted xs ∙ length-ports f 0 p) (
      rising_strictly (sorted xs) (sorted_rises xs) (different-Rearranged moved (different-count f 0 p (λ j k less l. apart j k less (omega (arith, l))))),
      AllByRecursion-Rearranged (λ x. x < c) moved (AllByRecursion-count (λ x. x < c) f 0 p (λ k l. let e : 0 + k ≡ k = omega arith in rw e (below k l))),
    )
