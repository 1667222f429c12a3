-- The orders of places are in lexicographic order.
use Rattle.std.proofs.Common.{ℕ, zero, suc, ◌<◌, List, [], ◌∷◌, map, refl, subst, sym, inl, inr, arith}
use Rattle.std.specs.List.{flat_map}
use Rattle.re_labels.proofs.Placing.{Pick, Pick-from, here, there}
use Rattle.re_labels.specs.Orders.{orders, placements, splits}
use Rattle.re_labels.proofs.Before.{IsBefore-head, IsBefore-tail, IsBefore-trans}
use Rattle.re_labels.proofs.Membership.{In, In-Contains, In-flat_map_from, In-map_from, count_from_range}
use Rattle.re_labels.proofs.Rising.{rising-append, rising-map}
use Rattle.re_labels.specs.Lists.{IsBefore, IsRising, count_from}

-- each number is below all that stand behind it
abbrev Ascends : List ℕ → Type 0
Ascends [] = Unit {0}
Ascends (x ∷ xs) = ((y : ℕ) → In y xs → x < y) × Ascends xs

-- the first elements of the splits ascend
abbrev Ahead : List (ℕ × List ℕ) → Type 0
Ahead [] = Unit {0}
Ahead (p ∷ ps) = ((q : ℕ × List ℕ) → In q ps → p.0 < q.0) × Ahead ps

In-Pick : {x : ℕ} {xs ys : List ℕ} → Pick x xs ys → In x xs
In-Pick here = inl refl
In-Pick (there k) = inr (In-Pick k)

others-Pick : {x : ℕ} {xs ys : List ℕ} (z : ℕ) → Pick x xs ys → In z ys → In z xs
others-Pick z here i = inr i
others-Pick z (there k) (inl e) = inl e
others-Pick z (there k) (inr i) = inr (others-Pick z k i)

Ascends-Pick : {x : ℕ} {xs ys : List ℕ} → Pick x xs ys → Ascends xs → Ascends ys
Ascends-Pick here h = h.1
Ascends-Pick (there k) h = ((λ z i. h.0 z (others-Pick z k i)), Ascends-Pick k h.1)

Ahead-map : (x : ℕ) (ps : List (ℕ × List ℕ)) → Ahead ps → Ahead (map (λ p. (p.0, x ∷ p.1)) ps)
Ahead-map x [] h = tt
Ahead-map x (p ∷ ps) h = (
  (λ q i. let r = In-map_from (λ q. (q.0, x ∷ q.1)) q ps i in subst (λ s. p.0 < s.0) (sym r.2) (h.0 r.0 r.1)),
  Ahead-map x ps h.1,
)

Ahead-splits : (xs : List ℕ) → Ascends xs → Ahead (splits xs)
Ahead-splits [] h = tt
Ahead-splits (x ∷ xs) h = (
  (λ q i. let r = In-map_from (λ q. (q.0, x ∷ q.1)) q (splits xs) i in subst (λ s. x < s.0) (sym r.2) (h.0 r.0.0 (In-Pick (Pick-from xs r.0 r.1)))),
  Ahead-map x (splits xs) (Ahead-splits xs h.1),
)

rising_blocks : (n : ℕ) → ((ys : List ℕ) → Ascends ys → IsRising IsBefore (orders n ys)) → (ps : List (ℕ × List ℕ)) → ((p : ℕ × List ℕ) → In p ps → Ascends p.1) → Ahead ps
    → IsRising IsBefore (flat_map (λ p. map (λ order. p.0 ∷ order) (orders n p.1)) ps)
rising_blocks n more [] each h = tt
rising_blocks n more (p ∷ ps) each h =
    rising-append IsBefore IsBefore-trans (map (λ order. p.0 ∷ order) (orders n p.1)) (flat_map (λ p. map (λ order. p.0 ∷ order) (orders n p.1)) ps)
    (rising-map IsBefore IsBefore (λ order. p.0 ∷ order) (orders n p.1) (λ v w i j. IsBefore-tail p.0 p.0 v w refl) (more p.1 (each p (inl refl))))
    (rising_blocks n more ps (λ q i. each q (inr i)) h.1)
    (λ v w i j.
    let r = In-map_from (λ order. p.0 ∷ order) v (orders n p.1) i in
    let s = In-flat_map_from (λ p. map (λ order. p.0 ∷ order) (orders n p.1)) w ps j in
    let t = In-map_from (λ order. s.0.0 ∷ order) w (orders n s.0.1) s.2 in
    rw (r.2, t.2) (IsBefore-head p.0 s.0.0 r.0 t.0 (h.0 s.0 s.1)))

rising-orders : (n : ℕ) (xs : List ℕ) → Ascends xs → IsRising IsBefore (orders n xs)
rising-orders zero xs h = tt
rising-orders (suc n) xs h = rising_blocks n (rising-orders n) (splits xs) (λ p i. Ascends-Pick (Pick-from xs p i) h) (Ahead-splits xs h)

Ascends-count_from : (i n : ℕ) → Ascends (count_from i n)
Ascends-count_from i zero = tt
Ascends-count_from i (suc n) = ((λ y h. omega (arith, (count_from_range (suc i) n y (In-Contains y (count_from (suc i) n) h)).0)), Ascends-count_from (suc i) n)

pub rising-placements : (n : ℕ) → IsRising IsBefore (placements n)
unfolding placements
rising-placements n = rising-orders n (count_from 0 n) (Ascends-count_from 0 n)
