-- Lists in which nothing stands twice: those with the same members have them in another order.
use Rattle.std.proofs.Common.{◌≡◌, ℕ, zero, suc, List, [], ◌∷◌, map, get_or, sym, ap, ◌∙◌, subst, arith}
use Rattle.std.specs.Prelude.{Contains}
use Rattle.std.proofs.lemmas.List.{get_or-map}
use Rattle.re_labels.proofs.Rearranging.{Contains-Rearranged, Rearranged-sym}
use Rattle.re_labels.specs.Rearranging.{Rearranged, chained, kept, swapped, unmoved}
use Rattle.re_forests.proofs.EdgeLabels.{picked}
use Rattle.re_forests.proofs.Filled.{port}
use Rattle.re_forests.proofs.Ports.{placed, port_at}
use Rattle.re_labels.proofs.Membership.{count_from_range}
use Rattle.re_labels.specs.Lists.{count_from}
use Rattle.re_labels.proofs.Membership.{Contains-here, Contains-later, Contains-none}
use Rattle.re_layers.specs.Networks.{AreDifferent}

pub different_Rearranged : {xs ys : List ℕ} → Rearranged xs ys → AreDifferent xs → AreDifferent ys
different_Rearranged unmoved d = d
different_Rearranged (kept {x = x} moved) d =
    (λ held. d.0 (Contains-Rearranged x (Rearranged-sym moved) held), different_Rearranged moved d.1)
different_Rearranged (swapped {x = x} {y = y} {xs = xs}) d = (
  λ held. by held,
  (λ held. d.0 (Contains-later x y xs held), d.1.1),
)
  where
    by : Contains (x ∷ xs) y → ⊥
    by (zero, l, e) = d.0 (subst (λ z. Contains (y ∷ xs) z) (sym e) (Contains-here y xs))
    by (suc k, l, e) = d.1.0 (k, omega arith, e)
different_Rearranged (chained moved moved') d = different_Rearranged moved' (different_Rearranged moved d)

pub same_members : (xs ys : List ℕ) → AreDifferent xs → AreDifferent ys → ((z : ℕ) → Contains xs z → Contains ys z)
    → ((z : ℕ) → Contains ys z → Contains xs z)
    → Rearranged xs ys
same_members [] [] d d' to of = unmoved
same_members [] (y ∷ ys) d d' to of = absurd (Contains-none y (of y (Contains-here y ys)))
same_members (x ∷ xs) ys d d' to of =
    let (rest, moved, within, kept_in) = picked ys x (to x (Contains-here x xs)) in
    let apart : AreDifferent (x ∷ rest) = different_Rearranged moved d' in
    let more : Rearranged xs rest = same_members xs rest d.1 apart.1
    (λ z held. kept_in z (to z (Contains-later z x xs held)) (λ e. d.0 (subst (Contains xs) e held)))
    (λ z held. at z (within z held) (λ e. apart.0 (subst (Contains rest) e held)) (of z (within z held))) in
    chained (kept more) (Rearranged-sym moved)
  where
    at : (z : ℕ) → Contains ys z → (z ≡ x → ⊥) → Contains (x ∷ xs) z → Contains xs z
    at z there ne (zero, l, e) = absurd (ne (sym e))
    at z there ne (suc k, l, e) = (k, omega arith, e)

pub different_counted : (i n : ℕ) → AreDifferent (count_from i n)
different_counted i zero = tt
different_counted i (suc n) = (
  λ held. (let (low, high) = count_from_range (suc i) n i held in omega (arith, low)),
  different_counted
      (suc i) n,
)

pub different_map : (f : ℕ → ℕ) (xs : List ℕ) → ((x y : ℕ) → Contains xs x → Contains xs y → f x ≡ f y → x ≡ y) → AreDifferent xs
    → AreDifferent (map f xs)
different_map f [] one d = tt
different_map f (x ∷ xs) one d = (
  λ held. other (held_cases xs held),
  different_map f xs (λ y z at at'. one y z (Contains-later y x xs at) (Contains-later z x xs at')) d.1,
)
  where
    held_cases : (ys : List ℕ) → Contains (map f ys) (f x) → (y : ℕ) × Contains ys y × (f y ≡ f x)
    held_cases [] held = absurd (Contains-none (f x) held)
    held_cases (y ∷ ys) (zero, l, e) = (y, Contains-here y ys, e)
    held_cases (y ∷ ys) (suc k, l, e) = let (z, at, same) = held_cases ys (k, omega arith, e) in (z, Contains-later z y ys at, same)

    other : (y : ℕ) × Contains xs y × (f y ≡ f x) → ⊥
    other (y, at, same) = d.0 (subst (Contains xs) (one y x (Contains-later y x xs at) (Contains-here x xs) same) at)

-- what stands at the port to a node
pub at_port : (f : ℕ → ℕ) (near : List ℕ) (w : ℕ) → AreDifferent near → Contains near w → get_or (map f near) (port near w) 0 ≡ f w
at_port f near w differ held =
    let (k, low, e) = placed near w held in
    let same : port near w ≡ k = subst (λ v. port near v ≡ k) e (port_at near k differ low) in
    ap (λ j. get_or (map f near) j 0) same ∙ get_or-map f near k 0 0 low ∙ ap f e
