-- The order of a diagram, and the sets of labels below labels.
use Rattle.std.proofs.Common.{◌≡◌, ℕ, ◌+◌, ◌<◌, Bool, true, false, cond, eqb, List, [], ◌∷◌, length, map, refl, sym, ap, ◌∙◌, subst, inl, inr, arith}
use Rattle.std.specs.Prelude.{Contains, ◌&&◌, ◌||◌}
use Rattle.std.proofs.lemmas.Bool.{false≢true}
use Rattle.std.proofs.lemmas.List.{get_or-map}
use Rattle.re_labels.specs.Rows.{set_at}
use Rattle.re_labels.proofs.Membership.{Contains-cases, Contains-count_from, Contains-filter, Contains-filter_cases, Contains-here, Contains-later, Contains-none, count_from_range, filter-alike, get_or-count_from, length-count_from, length-map', map-alike}
use Rattle.re_labels.proofs.Numbers.{IsLabelSet-count_from, IsLabelSet-filter, IsLabelSet-union}
use Rattle.re_labels.proofs.Sets.{IsIn-has, IsIn-union, IsIn-union_cases, has-IsIn}
use Rattle.re_labels.proofs.Tests.{and-true, eqb-same, eqb-true, or-false, or-left, or-right, or-true, true-and}
use Rattle.re_labels.specs.Lists.{count_from}
use Rattle.re_labels.specs.Sets.{IsIn, IsLabelSet, has, union}
use Rattle.re_problem.proofs.StepLaws.{map-map}
use Rattle.re_closure_laws.proofs.Generated.{same_set}
use Rattle.re_closure.specs.Diagrams.{IsBelow, OrderLaw, all_below, is_below, labels_below, with_lower}
use Rattle.re_closure.specs.Diagrams.IsBelow.{same, through}

-- ---- the test
pub below_itself : (edges : List (ℕ × ℕ)) (x : ℕ) → is_below edges x x ≡ true
below_itself [] x = eqb-same x
below_itself (edge ∷ edges) x = or-left (is_below edges x x) (is_below edges x edge.0 && is_below edges edge.1 x) (below_itself edges x)

pub below_on : (edges : List (ℕ × ℕ)) (x y z : ℕ) → is_below edges x y ≡ true → is_below edges y z ≡ true → is_below edges x z ≡ true
below_on [] x y z h k = subst (λ w. eqb x w ≡ true) (eqb-true y z k) h
below_on (edge ∷ edges) x y z h k =
    elim (or-true (is_below edges x y) (is_below edges x edge.0 && is_below edges edge.1 y) h) [
      | inl a ↦ elim (or-true (is_below edges y z) (is_below edges y edge.0 && is_below edges edge.1 z) k) [
        | inl b ↦ or-left (is_below edges x z) (is_below edges x edge.0 && is_below edges edge.1 z) (below_on edges x y z a b)
        | inr b ↦
            let two = and-true (is_below edges y edge.0) (is_below edges edge.1 z) b in
            or-right (is_below edges x z) (is_below edges x edge.0 && is_below edges edge.1 z)
            (true-and (is_below edges x edge.0) (is_below edges edge.1 z) (below_on edges x y edge.0 a two.0) two.1)
      ]
      | inr a ↦
          let one = and-true (is_below edges x edge.0) (is_below edges edge.1 y) a in
          let last : is_below edges edge.1 z ≡ true = elim (or-true (is_below edges y z) (is_below edges y edge.0 && is_below edges edge.1 z) k) [
            | inl b ↦ below_on edges edge.1 y z one.1 b
            | inr b ↦ (and-true (is_below edges y edge.0) (is_below edges edge.1 z) b).1
          ] in
          or-right (is_below edges x z) (is_below edges x edge.0 && is_below edges edge.1 z) (true-and (is_below edges x edge.0) (is_below edges edge.1 z) one.0 last)
    ]

below_edge : (edges : List (ℕ × ℕ)) (edge : ℕ × ℕ) → Contains edges edge → is_below edges edge.0 edge.1 ≡ true
below_edge [] edge i = absurd (Contains-none edge i)
below_edge (e ∷ edges) edge i = elim (Contains-cases edge e edges i) [
  | inl here ↦ subst (λ (f : ℕ × ℕ). is_below (e ∷ edges) f.0 f.1 ≡ true) (sym here)
      (or-right (is_below edges e.0 e.1) (is_below edges e.0 e.0 && is_below edges e.1 e.1)
      (true-and (is_below edges e.0 e.0) (is_below edges e.1 e.1) (below_itself edges e.0) (below_itself edges e.1)))
  | inr later ↦ or-left (is_below edges edge.0 edge.1) (is_below edges edge.0 e.0 && is_below edges e.1 edge.1) (below_edge edges edge later)
]

-- ---- ways along edges
wider : (edge : ℕ × ℕ) (edges : List (ℕ × ℕ)) {x y : ℕ} → IsBelow edges x y → IsBelow (edge ∷ edges) x y
wider edge edges same = same
wider edge edges (through {x = x} {y = y} held rest) = through (Contains-later (x, y) edge edges held) (wider edge edges rest)

joined : (edges : List (ℕ × ℕ)) {x y z : ℕ} → IsBelow edges x y → IsBelow edges y z → IsBelow edges x z
joined edges same way = way
joined edges (through held rest) way = through held (joined edges rest way)

told : (edges : List (ℕ × ℕ)) {x y : ℕ} → IsBelow edges x y → is_below edges x y ≡ true
told edges (same {x = x}) = below_itself edges x
told edges (through {x = x} {y = y} {z = z} held rest) = below_on edges x y z (below_edge edges (x, y) held) (told edges rest)

way_of : (edges : List (ℕ × ℕ)) (x y : ℕ) → is_below edges x y ≡ true → IsBelow edges x y
way_of [] x y h = subst (IsBelow [] x) (eqb-true x y h) same
way_of (edge ∷ edges) x y h = elim (or-true (is_below edges x y) (is_below edges x edge.0 && is_below edges edge.1 y) h) [
  | inl a ↦ wider edge edges (way_of edges x y a)
  | inr a ↦
      let two = and-true (is_below edges x edge.0) (is_below edges edge.1 y) a in
      joined (edge ∷ edges) (wider edge edges (way_of edges x edge.0 two.0))
      (through (Contains-here (edge.0, edge.1) edges) (wider edge edges (way_of edges edge.1 y two.1)))
]

pub order_law : OrderLaw
order_law edges x y = (λ h. way_of edges x y h, λ way. told edges way)

-- ---- the labels below a label
module _ (edges : List (ℕ × ℕ)) (n : ℕ) where
  pub in_below : (y x : ℕ) → x < n → is_below edges x y ≡ true → IsIn x (labels_below edges n y)
  in_below y x low h = Contains-filter (λ x. is_below edges x y) (count_from 0 n) x (Contains-count_from 0 n x (omega arith) (omega arith)) h

  pub of_below : (y x : ℕ) → IsIn x (labels_below edges n y) → (x < n) × (is_below edges x y ≡ true)
  of_below y x i =
      let two = Contains-filter_cases (λ x. is_below edges x y) (count_from 0 n) x i in
      let range = count_from_range 0 n x two.0 in
      (omega (arith, range.1), two.1)

  pub below_set : (y : ℕ) → IsLabelSet n (labels_below edges n y)
  below_set y = IsLabelSet-filter (λ x. is_below edges x y) n (count_from 0 n) (IsLabelSet-count_from 0 n n (omega arith))

  pub all_below-at : (k : ℕ) → k < n → set_at (all_below edges n) k ≡ labels_below edges n k
  all_below-at k low =
      let there : k < length (count_from 0 n) = omega (arith, length-count_from 0 n, low) in
      get_or-map (labels_below edges n) (count_from 0 n) k 0 [] there ∙ ap (labels_below edges n) (get_or-count_from 0 n k 0 low ∙ (let z : 0 + k ≡ k = omega arith in z))

  pub all_below-count : length (all_below edges n) ≡ n
  all_below-count = length-map' (labels_below edges n) (count_from 0 n) ∙ length-count_from 0 n

-- without edges there is each label alone
alone : (n y : ℕ) → y < n → labels_below [] n y ≡ y ∷ []
alone n y low = same_set n (labels_below [] n y) (y ∷ []) (below_set [] n y) (tt, (low, tt))
    (λ x i. subst (IsIn x) (ap (λ z. z ∷ []) (eqb-true x y (of_below [] n y x i).1)) (Contains-here x []))
    (λ x i. elim (Contains-cases x y [] i) [
      | inl e ↦ subst (λ z. IsIn z (labels_below [] n y)) (sym e) (in_below [] n y y low (eqb-same y))
      | inr none ↦ absurd (Contains-none x none)
    ])

pub all_alone : (n : ℕ) → map (λ label. label ∷ []) (count_from 0 n) ≡ all_below [] n
all_alone n = sym (map-alike (labels_below [] n) (λ label. label ∷ []) (count_from 0 n) (λ y held. let range = count_from_range 0 n y held in alone n y (omega (arith, range.1))))

-- with an edge in front
module _ (edge : ℕ × ℕ) (edges : List (ℕ × ℕ)) (n : ℕ) (high : edge.1 < n) where
  through_edge : (y : ℕ) → is_below edges edge.1 y ≡ true → union (labels_below edges n y) (labels_below edges n edge.0) ≡ labels_below (edge ∷ edges) n y
  through_edge y h = same_set n (union (labels_below edges n y) (labels_below edges n edge.0)) (labels_below (edge ∷ edges) n y)
      (IsLabelSet-union n (labels_below edges n y) (labels_below edges n edge.0) (below_set edges n y) (below_set edges n edge.0).1) (below_set (edge ∷ edges) n y)
      (λ x i. elim (IsIn-union_cases (labels_below edges n y) (labels_below edges n edge.0) x i) [
        | inl a ↦ let two = of_below edges n y x a in in_below (edge ∷ edges) n y x two.0 (or-left (is_below edges x y) (is_below edges x edge.0 && is_below edges edge.1 y) two.1)
        | inr a ↦
            let two = of_below edges n edge.0 x a in
            in_below (edge ∷ edges) n y x two.0
            (or-right (is_below edges x y) (is_below edges x edge.0 && is_below edges edge.1 y) (true-and (is_below edges x edge.0) (is_below edges edge.1 y) two.1 h))
      ])
      (λ x i. let two = of_below (edge ∷ edges) n y x i in
      IsIn-union (labels_below edges n y) (labels_below edges n edge.0) x (elim (or-true (is_below edges x y) (is_below edges x edge.0 && is_below edges edge.1 y) two.1) [
        | inl a ↦ inl (in_below edges n y x two.0 a)
        | inr a ↦ inr (in_below edges n edge.0 x two.0 (and-true (is_below edges x edge.0) (is_below edges edge.1 y) a).0)
      ]))

  past_edge : (y : ℕ) → is_below edges edge.1 y ≡ false → labels_below edges n y ≡ labels_below (edge ∷ edges) n y
  past_edge y h = filter-alike (λ x. is_below edges x y) (λ x. is_below (edge ∷ edges) x y) (count_from 0 n) (λ x held.
      sym (ap (λ b. is_below edges x y || (is_below edges x edge.0 && b)) h ∙ ap (λ b. is_below edges x y || b) (nothing (is_below edges x edge.0)) ∙ or-false (is_below edges x y)))
    where
      nothing : (b : Bool) → (b && false) ≡ false
      nothing true = refl
      nothing false = refl

  with_edge-at : (y : ℕ) → with_lower (labels_below edges n edge.0) edge.1 (labels_below edges n y) ≡ labels_below (edge ∷ edges) n y
  with_edge-at y = go (has (labels_below edges n y) edge.1) refl
    where
      go : (b : Bool) → has (labels_below edges n y) edge.1 ≡ b
          → cond b (union (labels_below edges n y) (labels_below edges n edge.0)) (labels_below edges n y) ≡ labels_below (edge ∷ edges) n y
      go true e = through_edge y (of_below edges n y edge.1 (has-IsIn (labels_below edges n y) edge.1 e)).1
      go false e = past_edge y (not_below (is_below edges edge.1 y) refl)
        where
          not_below : (b : Bool) → is_below edges edge.1 y ≡ b → is_below edges edge.1 y ≡ false
          not_below true h = absurd (false≢true (sym e ∙ IsIn-has (labels_below edges n y) edge.1 (in_below edges n y edge.1 high h)))
          not_below false h = h

  pub all_with_edge : map (with_lower (labels_below edges n edge.0) edge.1) (all_below edges n) ≡ all_below (edge ∷ edges) n
  all_with_edge =
      map-map (with_lower (labels_below edges n edge.0) edge.1) (labels_below edges n) (count_from 0 n)
      ∙ map-alike (λ y. with_lower (labels_below edges n edge.0) edge.1 (labels_below edges n y)) (labels_below (edge ∷ edges) n) (count_from 0 n) (λ y held. with_edge-at y)
