-- Labels at two places of a configuration.
use Rattle.std.proofs.Common.{◌≡◌, ◌∷◌, ◌∙◌, ◌+◌, ℕ, zero, suc, ◌<◌, ◌≤◌, List, [], length, get_or, set, refl, sym, ap, subst, arith, inl, inr, ◌⊎◌}
use Rattle.std.specs.Prelude.{Contains, ◌↔◌}
use Rattle.re_forests.proofs.Ports.{placed}
use Rattle.re_labels.proofs.Rearranging.{Contains-Rearranged, Rearranged-refl}
use Rattle.re_labels.specs.Rearranging.{Rearranged, chained, kept, swapped, unmoved}
use Rattle.re_labels.proofs.Membership.{Contains-cases, Contains-here, Contains-later, Contains-none}
use Rattle.re_labels.proofs.Tests.{below-cases, same_or_not}
use Rattle.re_labels.specs.Sets.{IsIn, union, with_label}
use Rattle.re_labels.proofs.Sets.{IsIn-with_label_cases, IsIn-with_label_new, IsIn-with_label_old}
use Rattle.re_flexible.proofs.Building.{grown}
use Rattle.re_flexible.specs.Relations.{Relates, Stands}

-- ---- the labels at the other places
abbrev pub OthersTo : List ℕ → ℕ → ℕ → ℕ → Type 0
OthersTo labels place n y = (j : ℕ) × (j < n) × (place ≡ j → ⊥) × (get_or labels j 0 ≡ y)

pub others_more : (labels : List ℕ) (place n : ℕ) (all new : List ℕ) → ((y : ℕ) → IsIn y all ↔ OthersTo labels place n y) → (place ≡ n → ⊥) → new ≡ with_label all (get_or labels n 0)
    → (y : ℕ) → IsIn y new ↔ OthersTo labels place (n + 1) y
others_more labels place n all new so_far apart e y = (
  λ held. elim (IsIn-with_label_cases all (get_or labels n 0) y (subst (IsIn y) e held)) [
    | inl is ↦ (n, omega arith, apart, is)
    | inr old ↦ let (j, low, other, is) = (so_far y).0 old in (j, omega (arith, low), other, is)
  ],
  λ found. subst (IsIn y) (sym e) (elim (below-cases found.0 n found.1) [
    | inl less ↦ IsIn-with_label_old all (get_or labels n 0) y ((so_far y).1 (found.0, less, found.2, found.3))
    | inr at ↦ subst (λ i. IsIn i (with_label all (get_or labels n 0))) (ap (λ k. get_or labels k 0) (sym at) ∙ found.3) (IsIn-with_label_new all (get_or labels n 0))
  ]),
)

pub others_past : (labels : List ℕ) (place n : ℕ) (all new : List ℕ) → ((y : ℕ) → IsIn y all ↔ OthersTo labels place n y) → place ≡ n → new ≡ all → (y : ℕ) → IsIn y new ↔ OthersTo labels place (n + 1) y
others_past labels place n all new so_far same e y = (
  λ held. let (j, low, other, is) = (so_far y).0 (subst (IsIn y) e held) in (j, omega (arith, low), other, is),
  λ found. subst (IsIn y) (sym e) ((so_far y).1 (elim (below-cases found.0 n found.1) [
    | inl less ↦ (found.0, less, found.2, found.3)
    | inr at ↦ absurd (found.2 (same ∙ sym at))
  ])),
)

-- ---- pairs whose first place is below n
abbrev pub StandsTo : List ℕ → ℕ → ℕ → ℕ → Type 0
StandsTo labels n x y = (i : ℕ) × (j : ℕ) × (i < n) × (j < length labels) × (i ≡ j → ⊥) × (get_or labels i 0 ≡ x) × (get_or labels j 0 ≡ y)

pub noted_more : (old now new : List (List ℕ)) (labels row more : List ℕ) (n : ℕ) → get_or labels n 0 < length now → ((x y : ℕ) → Relates now x y ↔ (Relates old x y ⊎ StandsTo labels n x y))
    → row ≡ get_or now (get_or labels n 0) [] → new ≡ set now (get_or labels n 0) (union row more) → ((y : ℕ) → IsIn y more ↔ OthersTo labels n (length labels) y)
    → (x y : ℕ) → Relates new x y ↔ (Relates old x y ⊎ StandsTo labels (n + 1) x y)
noted_more old now new labels row more n low so_far at e others x y = (
  λ held. elim ((grown now new (get_or labels n 0) row more low at e x y).0 held) [
    | inl there ↦ elim ((so_far x y).0 there) [
      | inl before ↦ inl before
      | inr pair ↦ (let (i, j, less, far, apart, first, second) = pair in inr (i, j, omega (arith, less), far, apart, first, second))
    ]
    | inr here ↦ (let (j, far, apart, is) = (others y).0 here.1 in inr (n, j, omega arith, far, apart, sym here.0, is))
  ],
  λ either. (grown now new (get_or labels n 0) row more low at e x y).1 (elim either [
    | inl before ↦ inl ((so_far x y).1 (inl before))
    | inr pair ↦ elim (below-cases pair.0 n pair.2) [
      | inl less ↦ inl ((so_far x y).1 (inr (pair.0, pair.1, less, pair.3, pair.4, pair.5, pair.6)))
      | inr same ↦ inr (sym pair.5 ∙ ap (λ i. get_or labels i 0) same, (others y).1 (pair.1, pair.3, subst (λ i. i ≡ pair.1 → ⊥) same pair.4, pair.6))
    ]
  ]),
)

-- ---- two places, by recursion
abbrev pub Pairs : List ℕ → ℕ → ℕ → Type 0
Pairs [] x y = ⊥
Pairs (z ∷ zs) x y = ((x ≡ z) × Contains zs y) ⊎ (((y ≡ z) × Contains zs x) ⊎ Pairs zs x y)

at_place : (zs : List ℕ) (j y : ℕ) → j < length zs → get_or zs j 0 ≡ y → Contains zs y
at_place [] j y low is = absurd (omega (arith, low))
at_place (z ∷ zs) zero y low is = subst (Contains (z ∷ zs)) is (Contains-here z zs)
at_place (z ∷ zs) (suc j) y low is = Contains-later y z zs (at_place zs j y (omega (arith, low)) is)

pub Stands-Pairs : (zs : List ℕ) (x y : ℕ) → Stands zs x y → Pairs zs x y
Stands-Pairs zs x y (i, j, low, far, apart, first, second) = go zs i j low far apart first second
  where
    go : (zs : List ℕ) (i j : ℕ) → i < length zs → j < length zs → (i ≡ j → ⊥) → get_or zs i 0 ≡ x → get_or zs j 0 ≡ y → Pairs zs x y
    go [] i j low far apart first second = absurd (omega (arith, low))
    go (z ∷ zs) zero zero low far apart first second = absurd (apart refl)
    go (z ∷ zs) zero (suc j) low far apart first second = inl (sym first, at_place zs j y (omega (arith, far)) second)
    go (z ∷ zs) (suc i) zero low far apart first second = inr (inl (sym second, at_place zs i x (omega (arith, low)) first))
    go (z ∷ zs) (suc i) (suc j) low far apart first second = inr (inr (go zs i j (omega (arith, low)) (omega (arith, far)) (λ e. apart (ap suc e)) first second))

pub Pairs-Stands : (zs : List ℕ) (x y : ℕ) → Pairs zs x y → Stands zs x y
Pairs-Stands [] x y pair = absurd pair
Pairs-Stands (z ∷ zs) x y pair = elim pair [
  | inl front ↦ let (j, low, is) = placed zs y front.1 in (0, suc j, omega arith, omega (arith, low), (λ e. absurd (omega (arith, e))), sym front.0, is)
  | inr rest ↦ elim rest [
    | inl front ↦ (let (j, low, is) = placed zs x front.1 in (suc j, 0, omega (arith, low), omega arith, (λ e. absurd (omega (arith, e))), is, sym front.0))
    | inr deeper ↦ (let (i, j, low, far, apart, first, second) = Pairs-Stands zs x y deeper in (suc i, suc j, omega (arith, low), omega (arith, far), (λ e. apart (omega (arith, e))), first, second))
  ]
]

-- a label in front of the others
to_front : (x : ℕ) (zs : List ℕ) → Contains zs x → (rest : List ℕ) × Rearranged zs (x ∷ rest)
to_front x [] held = absurd (Contains-none x held)
to_front x (z ∷ zs) held = elim (Contains-cases x z zs held) [
  | inl e ↦ (zs, subst (λ w. Rearranged (z ∷ zs) (w ∷ zs)) (sym e) (Rearranged-refl (z ∷ zs)))
  | inr there ↦ let (rest, moved) = to_front x zs there in (z ∷ rest, chained (kept moved) swapped)
]

-- two labels in front of the others
pub Pairs-rest : (zs : List ℕ) (x y : ℕ) → Pairs zs x y → (rest : List ℕ) × Rearranged zs (x ∷ y ∷ rest)
Pairs-rest [] x y pair = absurd pair
Pairs-rest (z ∷ zs) x y pair = elim pair [
  | inl front ↦ let (rest, moved) = to_front y zs front.1 in (rest, subst (λ w. Rearranged (z ∷ zs) (w ∷ y ∷ rest)) (sym front.0) (kept moved))
  | inr others ↦ elim others [
    | inl front ↦ (let (rest, moved) = to_front x zs front.1 in (rest, chained (subst (λ w. Rearranged (z ∷ zs) (w ∷ x ∷ rest)) (sym front.0) (kept moved)) swapped))
    | inr deeper ↦ (let (rest, moved) = Pairs-rest zs x y deeper in (z ∷ rest, chained (kept moved) (chained swapped (kept swapped))))
  ]
]

-- they stand at two places in any order
pub Pairs-Rearranged : (x y : ℕ) {zs ws : List ℕ} → Rearranged zs ws → Pairs zs x y → Pairs ws x y
Pairs-Rearranged x y unmoved pair = pair
Pairs-Rearranged x y (kept p) pair = elim pair [
  | inl front ↦ inl (front.0, Contains-Rearranged y p front.1)
  | inr others ↦ elim others [ inl front ↦ inr (inl (front.0, Contains-Rearranged x p front.1)) | inr deeper ↦ inr (inr (Pairs-Rearranged x y p deeper)) ]
]
Pairs-Rearranged x y (swapped {x = a} {y = b} {xs = zs}) pair = swap a b zs pair
  where
    swap : (a b : ℕ) (zs : List ℕ) → Pairs (a ∷ b ∷ zs) x y → Pairs (b ∷ a ∷ zs) x y
    swap a b zs pair = elim pair [
      | inl front ↦ elim (Contains-cases y b zs front.1) [
        | inl e ↦ inr (inl (e, subst (Contains (a ∷ zs)) (sym front.0) (Contains-here a zs)))
        | inr there ↦ inr (inr (inl (front.0, there)))
      ]
      | inr others ↦ elim others [
        | inl front ↦ elim (Contains-cases x b zs front.1) [
          | inl e ↦ inl (e, subst (Contains (a ∷ zs)) (sym front.0) (Contains-here a zs))
          | inr there ↦ inr (inr (inr (inl (front.0, there))))
        ]
        | inr deeper ↦ elim deeper [
          | inl front ↦ inl (front.0, Contains-later y a zs front.1)
          | inr last ↦ elim last [ inl front ↦ inr (inl (front.0, Contains-later x a zs front.1)) | inr deepest ↦ inr (inr (inr (inr deepest))) ]
        ]
      ]
    ]
Pairs-Rearranged x y (chained p q) pair = Pairs-Rearranged x y q (Pairs-Rearranged x y p pair)

pub Stands-rest : (zs : List ℕ) (x y : ℕ) → Stands zs x y → (rest : List ℕ) × Rearranged zs (x ∷ y ∷ rest)
Stands-rest zs x y stands = Pairs-rest zs x y (Stands-Pairs zs x y stands)

pub rest-Stands : (zs rest : List ℕ) (x y : ℕ) → Rearranged (x ∷ y ∷ rest) zs → Stands zs x y
rest-Stands zs rest x y moved = Pairs-Stands zs x y (Pairs-Rearranged x y moved (inl (refl, Contains-here y rest)))

-- ---- one place
pub Stands-Contains : (zs : List ℕ) (x y : ℕ) → Stands zs x y → Contains zs x
Stands-Contains zs x y (i, j, low, far, apart, first, second) = at_place zs i x low first

pub Contains-Stands : (zs : List ℕ) (x : ℕ) → Contains zs x → 2 ≤ length zs → (y : ℕ) × Stands zs x y
Contains-Stands zs x held two =
    let (i, low, is) = placed zs x held in elim (same_or_not i 0) [
      | inl e ↦ (get_or zs 1 0, (i, 1, low, omega (arith, two), (λ same. absurd (omega (arith, e, same))), is, refl))
      | inr apart ↦ (get_or zs 0 0, (i, 0, low, omega (arith, two), apart, is, refl))
    ]
