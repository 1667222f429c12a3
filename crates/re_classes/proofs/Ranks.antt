-- How many come before one, and the labels that go with it.
use Rattle.std.proofs.Common.{◌≡◌, ℕ, zero, suc, ◌+◌, ◌≤◌, ◌<◌, Bool, true, false, cond, eqb, ltb, ◌&&◌, ◌||◌, List, [], ◌∷◌, map, length, get_or, refl, sym, ◌∙◌, ap, subst, arith, inl, inr, ◌⊎◌}
use Rattle.std.specs.Prelude.{Contains}
use Rattle.std.proofs.lemmas.Bool.Decides.{nat_tests}
use Rattle.std.proofs.lemmas.List.{get_or-map, get_or_default, length-map}
use Rattle.std.proofs.lemmas.List.Elements.{Contains-get_or}
use Rattle.std.proofs.lemmas.Bool.{le-ltb}
use Rattle.re_labels.proofs.Rearranging.{Contains-Rearranged}
use Rattle.re_labels.proofs.Sorting.{Rearranged-sorted, sorted_rises, tail_rises}
use Rattle.re_labels.specs.Configs.{sorted}
use Rattle.re_labels.specs.Rearranging.{Rearranged, chained, kept, swapped, unmoved}
use Rattle.re_labels.proofs.Membership.{Contains-cases, Contains-here, Contains-later, Contains-map, Contains-map_cases, Contains-none, count_from_range, get_or-count_from, length-count_from}
use Rattle.re_labels.proofs.Tests.{true-below}
use Rattle.re_labels.specs.Lists.{IsRising, count_from}
use Rattle.re_local.proofs.ColouredLocal.{different_Rearranged}
use Rattle.re_layers.specs.Networks.{AreDifferent}
use Rattle.re_classes.proofs.Parts.{Pairwise, Part, held, left_out, pairwise_from, pairwise_map, pairwise_two, pairwise_with, part_empty}
use Rattle.re_classes.proofs.Turns.{Ordered, Turn, level, turned_to}
use Rattle.re_layers.proofs.Filters.{either}

-- how many pass the test
abbrev pub count : {X : Type 0} → (X → Bool) → List X → ℕ
count p [] = 0
count p (x ∷ xs) = cond (p x) (suc (count p xs)) (count p xs)

count_same : {X : Type 0} (p q : X → Bool) (xs : List X) → ((x : X) → Contains xs x → p x ≡ q x) → count p xs ≡ count q xs
count_same p q [] same = refl
count_same p q (x ∷ xs) same = rw (same x (Contains-here x xs), count_same p q xs (λ y at. same y (Contains-later y x xs at))) refl

count_map : {X Y : Type 0} (f : X → Y) (p : Y → Bool) (xs : List X) → count p (map f xs) ≡ count (λ x. p (f x)) xs
count_map f p [] = refl
count_map f p (x ∷ xs) = ap (λ n. cond (p (f x)) (suc n) n) (count_map f p xs)

count_Rearranged : {X : Type 0} (p : X → Bool) {xs ys : List X} → Rearranged xs ys → count p xs ≡ count p ys
count_Rearranged p unmoved = refl
count_Rearranged p (kept {x = x} h) = ap (λ n. cond (p x) (suc n) n) (count_Rearranged p h)
count_Rearranged p (swapped {x = x} {y = y} {xs = xs}) = at (p x) (p y) (count p xs)
  where
    at : (b c : Bool) (n : ℕ) → cond b (suc (cond c (suc n) n)) (cond c (suc n) n) ≡ cond c (suc (cond b (suc n) n)) (cond b (suc n) n)
    at true true n = refl
    at true false n = refl
    at false true n = refl
    at false false n = refl
count_Rearranged p (chained h i) = count_Rearranged p h ∙ count_Rearranged p i

count_most : {X : Type 0} (p q : X → Bool) (xs : List X) → ((x : X) → Contains xs x → p x ≡ true → q x ≡ true) → count p xs ≤ count q xs
count_most p q [] to = omega arith
count_most p q (x ∷ xs) to = at (p x) (q x) (to x (Contains-here x xs)) (count_most p q xs (λ y at. to y (Contains-later y x xs at)))
  where
    at : (b c : Bool) → (b ≡ true → c ≡ true) → count p xs ≤ count q xs → cond b (suc (count p xs)) (count p xs) ≤ cond c (suc (count q xs)) (count q xs)
    at true true i l = omega (arith, l)
    at true false i l = absurd (let e : false ≡ true = i refl in cc)
    at false true i l = omega (arith, l)
    at false false i l = l

-- where one passes the second test alone
count_less : {X : Type 0} (p q : X → Bool) (xs : List X) → ((x : X) → Contains xs x → p x ≡ true → q x ≡ true) → (y : X) → Contains xs y → p y ≡ false → q y ≡ true → count p xs < count q xs
count_less p q [] to y at fails passes = absurd (Contains-none y at)
count_less {X = X} p q (x ∷ xs) to y at fails passes = elim (Contains-cases y x xs at) [
  | inl e ↦ here (subst (λ z. p z ≡ false) e fails) (subst (λ z. q z ≡ true) e passes)
  | inr there ↦ later (p x) (q x) (to x (Contains-here x xs)) (count_less p q xs (λ z at. to z (Contains-later z x xs at)) y there fails passes)
]
  where
    most : count p xs ≤ count q xs
    most = count_most p q xs (λ z at. to z (Contains-later z x xs at))

    here : p x ≡ false → q x ≡ true → cond (p x) (suc (count p xs)) (count p xs) < cond (q x) (suc (count q xs)) (count q xs)
    here fails passes = rw (fails, passes) (omega (arith, most))

    later : (b c : Bool) → (b ≡ true → c ≡ true) → count p xs < count q xs → cond b (suc (count p xs)) (count p xs) < cond c (suc (count q xs)) (count q xs)
    later true true i l = omega (arith, l)
    later true false i l = absurd (let e : false ≡ true = i refl in cc)
    later false true i l = omega (arith, l)
    later false false i l = l

count_all : {X : Type 0} (xs : List X) → count (λ x. true) xs ≡ length xs
count_all [] = refl
count_all (x ∷ xs) = ap suc (count_all xs)

count_none : {X : Type 0} (p : X → Bool) (xs : List X) → ((x : X) → Contains xs x → p x ≡ false) → count p xs ≡ 0
count_none p [] fails = refl
count_none p (x ∷ xs) fails = rw (fails x (Contains-here x xs)) (count_none p xs (λ y at. fails y (Contains-later y x xs at)))

-- ---- lists that rise
-- an element of a rising list stands behind as many as are less
pub get_or-rank : (xs : List ℕ) (d y : ℕ) → Pairwise (λ x y. x < y) xs → Contains xs y → get_or xs (count (λ x. ltb x y) xs) d ≡ y
get_or-rank [] d y h at = absurd (Contains-none y at)
get_or-rank (x ∷ xs) d y h at = elim (Contains-cases y x xs at) [
  | inl e ↦ here e
  | inr there ↦ rw (true-below x y (h.0 y there)) (get_or-rank xs d y h.1 there)
]
  where
    here : y ≡ x → get_or (x ∷ xs) (count (λ z. ltb z y) (x ∷ xs)) d ≡ y
    here e =
        let first : ltb x y ≡ false = le-ltb x y (omega (arith, e)) in
        let others : count (λ z. ltb z y) xs ≡ 0 = count_none (λ z. ltb z y) xs (λ z there. le-ltb z y (let l = h.0 z there in omega (arith, l, e))) in
        rw (first, others) (sym e)

pub rising_at : (xs : List ℕ) (d i j : ℕ) → Pairwise (λ x y. x < y) xs → i < j → j < length xs → get_or xs i d < get_or xs j d
rising_at [] d i j h l m = absurd (omega (arith, m))
rising_at (x ∷ xs) d i zero h l m = absurd (omega (arith, l))
rising_at (x ∷ xs) d zero (suc j) h l m = h.0 (get_or xs j d) (Contains-get_or xs j d (omega (arith, m)))
rising_at (x ∷ xs) d (suc i) (suc j) h l m = rising_at xs d i j h.1 (omega (arith, l)) (omega (arith, m))

-- what stands among the elements of a rising list, in order, is a part of it
pub rising_part : (xs ys : List ℕ) → Pairwise (λ x y. x < y) xs → Pairwise (λ x y. x < y) ys → ((z : ℕ) → Contains xs z → Contains ys z) → Part xs ys
rising_part [] ys h i in_it = part_empty ys
rising_part (x ∷ xs) [] h i in_it = absurd (Contains-none x (in_it x (Contains-here x xs)))
rising_part (x ∷ xs) (y ∷ ys) h i in_it = elim (Contains-cases x y ys (in_it x (Contains-here x xs))) [
  | inl e ↦ subst (λ z. Part (z ∷ xs) (y ∷ ys)) (sym e) (held (rising_part xs ys h.1 i.1 (λ z at. past z (in_it z (Contains-later z x xs at)) (let l = h.0 z at in omega (arith, l, e)))))
  | inr there ↦ left_out (rising_part (x ∷ xs) ys h i.1 (λ z at. past z (in_it z at) (above z at (i.0 x there))))
]
  where
    past : (z : ℕ) → Contains (y ∷ ys) z → y < z → Contains ys z
    past z at l = elim (Contains-cases z y ys at) [ inl e ↦ absurd (omega (arith, e, l)) | inr there ↦ there ]

    above : (z : ℕ) → Contains (x ∷ xs) z → y < x → y < z
    above z at l = elim (Contains-cases z x xs at) [ inl e ↦ omega (arith, e, l) | inr there ↦ (let m = h.0 z there in omega (arith, m, l)) ]

pub count_from_rises : (i n : ℕ) → Pairwise (λ x y. x < y) (count_from i n)
count_from_rises i zero = tt
count_from_rises i (suc n) = ((λ y at. (let l = count_from_range (suc i) n y at in omega (arith, l.0))), count_from_rises (suc i) n)

above_first : (x : ℕ) (xs : List ℕ) → IsRising (λ x y. x ≤ y) (x ∷ xs) → (y : ℕ) → Contains xs y → x ≤ y
above_first x [] h y at = absurd (Contains-none y at)
above_first x (z ∷ xs) h y at = elim (Contains-cases y z xs at) [
  | inl e ↦ (let l = h.0 in omega (arith, l, e))
  | inr there ↦ (let l = h.0 in let m = above_first z xs h.1 y there in omega (arith, l, m))
]

different_rising : (xs : List ℕ) → IsRising (λ x y. x ≤ y) xs → AreDifferent xs → Pairwise (λ x y. x < y) xs
different_rising [] h d = tt
different_rising (x ∷ xs) h d = ((λ y at. strictly y at (above_first x xs h y at)), different_rising xs (tail_rises x xs h) d.1)
  where
    strictly : (y : ℕ) → Contains xs y → x ≤ y → x < y
    strictly y at l = elim (three x y l) [ inl e ↦ absurd (d.0 (subst (Contains xs) (sym e) at)) | inr m ↦ m ]
      where
        three : (x y : ℕ) → x ≤ y → (x ≡ y) ⊎ (x < y)
        three x y l = elim (either (ltb x y)) [ inl t ↦ inr (grind (arith, nat_tests)) | inr f ↦ inl (grind (arith, nat_tests)) ]

pub sorted_rising : (xs : List ℕ) → AreDifferent xs → Pairwise (λ x y. x < y) (sorted xs)
sorted_rising xs d = different_rising (sorted xs) (sorted_rises xs) (different_Rearranged (Rearranged-sorted xs) d)

-- ---- turns with the numbers from 0 on as labels
-- whether the first one comes first: with less windings, or with as many and by its place on the way
abbrev pub comes_before : Turn ℕ → Turn ℕ → Bool
comes_before t u = ltb (t.ups + u.downs) (u.ups + t.downs) || (eqb (t.ups + u.downs) (u.ups + t.downs) && ltb t.label u.label)

-- how many come before the i-th
abbrev pub rank : List (Turn ℕ) → ℕ → ℕ
rank ts i = count (λ t. comes_before t (get_or ts i (level 0))) ts

comes_yes : (t u : Turn ℕ) → t.label < u.label → t.ups + u.downs ≤ u.ups + t.downs → comes_before t u ≡ true
comes_yes t u l m = at (t.ups + u.downs) (u.ups + t.downs) t.label u.label l m
  where
    at : (a b i j : ℕ) → i < j → a ≤ b → (ltb a b || (eqb a b && ltb i j)) ≡ true
    at a b i j l m = grind (arith, nat_tests)

comes_no : (t u : Turn ℕ) → t.label < u.label → u.ups + t.downs < t.ups + u.downs → comes_before u t ≡ true
comes_no t u l m = at (u.ups + t.downs) (t.ups + u.downs) u.label t.label m
  where
    at : (a b i j : ℕ) → a < b → (ltb a b || (eqb a b && ltb i j)) ≡ true
    at a b i j m = grind (arith, nat_tests)

comes_cases : (t u : Turn ℕ) → comes_before t u ≡ true → (t.ups + u.downs < u.ups + t.downs) ⊎ ((t.ups + u.downs ≡ u.ups + t.downs) × (t.label < u.label))
comes_cases t u h = at (t.ups + u.downs) (u.ups + t.downs) t.label u.label h
  where
    at : (a b i j : ℕ) → (ltb a b || (eqb a b && ltb i j)) ≡ true → (a < b) ⊎ ((a ≡ b) × (i < j))
    at a b i j h = elim (either (ltb a b)) [
      | inl passes ↦ inl (grind (arith, nat_tests))
      | inr fails ↦ elim (either (eqb a b)) [
        | inl same ↦ elim (either (ltb i j)) [ inl low ↦ inr (grind (arith, nat_tests), grind (arith, nat_tests)) | inr high ↦ absurd (clash (ltb a b) (eqb a b) (ltb i j) h fails (inr high)) ]
        | inr other ↦ absurd (clash (ltb a b) (eqb a b) (ltb i j) h fails (inl other))
      ]
    ]
      where
        clash : (x y z : Bool) → (x || (y && z)) ≡ true → x ≡ false → (y ≡ false) ⊎ (z ≡ false) → ⊥
        clash true y z h e f = cc
        clash false true true h e (inl f) = cc
        clash false true true h e (inr f) = cc
        clash false true false h e f = cc
        clash false false z h e f = cc

comes_trans : (s t u : Turn ℕ) → comes_before t u ≡ true → comes_before s t ≡ true → comes_before s u ≡ true
comes_trans s t u h i = elim (comes_cases t u h) [
  | inl l ↦ elim (comes_cases s t i) [
    | inl m ↦ first (s.ups + u.downs) (u.ups + s.downs) s.label u.label (omega (arith, l, m))
    | inr m ↦ (let e = m.0 in first (s.ups + u.downs) (u.ups + s.downs) s.label u.label (omega (arith, l, e)))
  ]
  | inr l ↦ elim (comes_cases s t i) [
    | inl m ↦ (let e = l.0 in first (s.ups + u.downs) (u.ups + s.downs) s.label u.label (omega (arith, e, m)))
    | inr m ↦ (let e = l.0 in let f = m.0 in let g = l.1 in let k = m.1 in second (s.ups + u.downs) (u.ups + s.downs) s.label u.label (omega (arith, e, f)) (omega (arith, g, k)))
  ]
]
  where
    first : (a b i j : ℕ) → a < b → (ltb a b || (eqb a b && ltb i j)) ≡ true
    first a b i j l = grind (arith, nat_tests)

    second : (a b i j : ℕ) → a ≡ b → i < j → (ltb a b || (eqb a b && ltb i j)) ≡ true
    second a b i j e l = grind (arith, nat_tests)

comes_itself : (t : Turn ℕ) → comes_before t t ≡ false
comes_itself t = at (t.ups + t.downs) t.label
  where
    at : (a i : ℕ) → (ltb a a || (eqb a a && ltb i i)) ≡ false
    at a i = grind (arith, nat_tests)

rank_less : (ts : List (Turn ℕ)) (t u : Turn ℕ) → Contains ts t → comes_before t u ≡ true → count (λ s. comes_before s t) ts < count (λ s. comes_before s u) ts
rank_less ts t u at h = count_less (λ s. comes_before s t) (λ s. comes_before s u) ts (λ s there i. comes_trans s t u h i) t at (comes_itself t) h

rank_below : (ts : List (Turn ℕ)) (t : Turn ℕ) → Contains ts t → count (λ s. comes_before s t) ts < length ts
rank_below ts t at = subst (λ n. count (λ s. comes_before s t) ts < n) (count_all ts) (count_less (λ s. comes_before s t) (λ s. true) ts (λ s there i. refl) t at (comes_itself t) refl)

-- the labels
abbrev pub labels : {E : Type 0} → List (Turn E) → List E
labels {E = E} ts = map (λ (t : Turn E). t.label) ts

module _ (ts : List (Turn ℕ)) (n : ℕ) (numbered : labels ts ≡ count_from 0 n) where
  size_is : length ts ≡ n
  size_is = sym (length-map ts (λ (t : Turn ℕ). t.label)) ∙ (ap length numbered ∙ length-count_from 0 n)

  -- the i-th is the one with label i
  labels_at : (t : Turn ℕ) → Contains ts t → get_or ts t.label (level 0) ≡ t
  labels_at t (k, l, at) =
      let one : get_or (labels ts) k 0 ≡ t.label = get_or-map (λ (u : Turn ℕ). u.label) ts k t 0 l ∙ ap (λ (u : Turn ℕ). u.label) at in
      let two : get_or (labels ts) k 0 ≡ 0 + k = ap (λ ls. get_or ls k 0) numbered ∙ get_or-count_from 0 n k 0 (omega (arith, l, size_is)) in
      let is : t.label ≡ k = omega (arith, one, two) in
      ap (λ i. get_or ts i (level 0)) is ∙ (get_or_default ts k (level 0) t l ∙ at)

  rank_at : (t : Turn ℕ) → Contains ts t → rank ts t.label ≡ count (λ s. comes_before s t) ts
  rank_at t at = ap (λ u. count (λ s. comes_before s u) ts) (labels_at t at)

  pub by_place : Pairwise (λ t u. t.label < u.label) ts
  by_place = pairwise_from (λ t u. t.label < u.label) (λ x y. x < y) (λ (t : Turn ℕ). t.label) ts (λ x y at at' l. l) (subst (Pairwise (λ x y. x < y)) (sym numbered) (count_from_rises 0 n))

  -- the element of a rising list behind as many as come before a node, as its label
  pub ordered_ranks : (xs : List ℕ) (d : ℕ) → Pairwise (λ x y. x < y) xs → length ts ≤ length xs → Pairwise Ordered (map (turned_to (λ i. get_or xs (rank ts i) d)) ts)
  ordered_ranks xs d rises enough = pairwise_map (λ t u. Ordered (turned_to g t) (turned_to g u)) Ordered (turned_to g) (λ t u h. h) ts (pairwise_with (λ t u. t.label < u.label) (λ t u. Ordered (turned_to g t) (turned_to g u)) ts each by_place)
    where
      g : ℕ → ℕ
      g i = get_or xs (rank ts i) d

      less : (t u : Turn ℕ) → Contains ts t → Contains ts u → comes_before t u ≡ true → get_or xs (rank ts t.label) d < get_or xs (rank ts u.label) d
      less t u at at' h = rw (rank_at t at, rank_at u at') (rising_at xs d (count (λ s. comes_before s t) ts) (count (λ s. comes_before s u) ts) rises (rank_less ts t u at h) (let l = rank_below ts u at' in omega (arith, l, enough)))

      each : (t u : Turn ℕ) → Contains ts t → Contains ts u → t.label < u.label → Ordered (turned_to g t) (turned_to g u)
      each t u at at' l = ((λ m. less t u at at' (comes_yes t u l m)), (λ m. less u t at' at (comes_no t u l m)))

pub ordered_different : (ts : List (Turn ℕ)) → Pairwise Ordered ts → AreDifferent (labels ts)
ordered_different [] h = tt
ordered_different (t ∷ ts) h = ((λ at. clash (Contains-map_cases (λ (u : Turn ℕ). u.label) ts t.label at)), ordered_different ts h.1)
  where
    clash : (u : Turn ℕ) × Contains ts u × (u.label ≡ t.label) → ⊥
    clash (u, there, e) = which (h.0 u there) (low_or_high (t.ups + u.downs) (u.ups + t.downs))
      where
        low_or_high : (a b : ℕ) → (a ≤ b) ⊎ (b < a)
        low_or_high a b = elim (either (ltb b a)) [ inl passes ↦ inr (grind (arith, nat_tests)) | inr fails ↦ inl (grind (arith, nat_tests)) ]

        which : Ordered t u → (t.ups + u.downs ≤ u.ups + t.downs) ⊎ (u.ups + t.downs < t.ups + u.downs) → ⊥
        which (low, high) (inl l) = let m = low l in omega (arith, m, e)
        which (low, high) (inr l) = let m = high l in omega (arith, m, e)

-- nodes with their places on the way and with labels that are ordered: the label is the one behind as many labels as nodes come before it
module _ (ts : List (Turn (ℕ × ℕ))) (n d : ℕ) (numbered : labels (map (turned_to (λ (p : ℕ × ℕ). p.0)) ts) ≡ count_from 0 n) (ordered : Pairwise Ordered (map (turned_to (λ (p : ℕ × ℕ). p.1)) ts)) where
  abbrev one : Turn (ℕ × ℕ) → Turn ℕ
  one t = turned_to (λ (p : ℕ × ℕ). p.0) t

  abbrev two : Turn (ℕ × ℕ) → Turn ℕ
  two t = turned_to (λ (p : ℕ × ℕ). p.1) t

  abbrev Both : Turn (ℕ × ℕ) → Turn (ℕ × ℕ) → Type 0
  Both s t = (s.label.0 < t.label.0) × Ordered (two s) (two t)

  pairwise_both : (us : List (Turn (ℕ × ℕ))) → Pairwise (λ s t. s.label.0 < t.label.0) us → Pairwise (λ s t. Ordered (two s) (two t)) us → Pairwise Both us
  pairwise_both [] h i = tt
  pairwise_both (u ∷ us) h i = ((λ y at. (h.0 y at, i.0 y at)), pairwise_both us h.1 i.1)

  both : Pairwise Both ts
  both = pairwise_both ts (pairwise_from (λ s t. s.label.0 < t.label.0) (λ x y. x.label < y.label) one ts (λ x y at at' l. l) (by_place (map one ts) n numbered))
      (pairwise_from (λ s t. Ordered (two s) (two t)) Ordered two ts (λ x y at at' h. h) ordered)

  alike : (s t : Turn (ℕ × ℕ)) → Contains ts s → Contains ts t → comes_before (one s) (one t) ≡ ltb s.label.1 t.label.1
  alike s t at at' = elim (pairwise_two Both ts both s t at at') [
    | inl e ↦ subst (λ u. comes_before (one s) (one u) ≡ ltb s.label.1 u.label.1) e (comes_itself (one s) ∙ sym (le-ltb s.label.1 s.label.1 (omega arith)))
    | inr (inl h) ↦ first (s.ups + t.downs) (t.ups + s.downs) s.label.0 t.label.0 s.label.1 t.label.1 h.0 h.1
    | inr (inr h) ↦ last (t.ups + s.downs) (s.ups + t.downs) t.label.0 s.label.0 t.label.1 s.label.1 h.0 h.1
  ]
    where
      first : (a b i j x y : ℕ) → i < j → (a ≤ b → x < y) × (b < a → y < x) → (ltb a b || (eqb a b && ltb i j)) ≡ ltb x y
      first a b i j x y l (low, high) = elim (either (ltb b a)) [
        | inl passes ↦ (let m = high (grind (arith, nat_tests)) in grind (arith, nat_tests))
        | inr fails ↦ (let m = low (grind (arith, nat_tests)) in grind (arith, nat_tests))
      ]

      last : (a b i j x y : ℕ) → i < j → (a ≤ b → x < y) × (b < a → y < x) → (ltb b a || (eqb b a && ltb j i)) ≡ ltb y x
      last a b i j x y l (low, high) = elim (either (ltb b a)) [
        | inl passes ↦ (let m = high (grind (arith, nat_tests)) in grind (arith, nat_tests))
        | inr fails ↦ (let m = low (grind (arith, nat_tests)) in grind (arith, nat_tests))
      ]

  pub ranks_found : (t : Turn (ℕ × ℕ)) → Contains ts t → get_or (sorted (labels (map two ts))) (rank (map one ts) t.label.0) d ≡ t.label.1
  ranks_found t at =
      let same : rank (map one ts) t.label.0 ≡ count (λ x. ltb x t.label.1) (sorted (labels (map two ts))) =
      rank_at (map one ts) n numbered (one t) (Contains-map one ts t at)
      ∙ (count_map one (λ s. comes_before s (one t)) ts
      ∙ (count_same (λ s. comes_before (one s) (one t)) (λ s. ltb s.label.1 t.label.1) ts (λ s there. alike s t there at)
      ∙ (sym (count_map two (λ s. ltb s.label t.label.1) ts)
      ∙ (sym (count_map (λ (s : Turn ℕ). s.label) (λ x. ltb x t.label.1) (map two ts))
      ∙ count_Rearranged (λ x. ltb x t.label.1) (Rearranged-sorted (labels (map two ts))))))) in
      let there : Contains (sorted (labels (map two ts))) t.label.1 =
      Contains-Rearranged t.label.1 (Rearranged-sorted (labels (map two ts))) (Contains-map (λ (s : Turn ℕ). s.label) (map two ts) (two t) (Contains-map two ts t at)) in
      ap (λ k. get_or (sorted (labels (map two ts))) k d) same ∙ get_or-rank (sorted (labels (map two ts))) d t.label.1 (sorted_rising (labels (map two ts)) (ordered_different (map two ts) ordered)) there
