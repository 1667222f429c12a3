-- What is left of configurations when one label is taken out of each.
use Rattle.std.proofs.Common.{◌≡◌, ℕ, ◌<◌, ◌≤◌, ◌+◌, Bool, true, false, cond, List, [], ◌∷◌, ◌++◌, length, map, filter, take, get_or, remove, Contains, ◌⊎◌, ◌↔◌, eqb, leb, refl, sym, ap, ◌∙◌, subst, inl, inr, arith, append_assoc}
use Rattle.std.specs.List.{AllByRecursion, flat_map}
use Rattle.std.proofs.lemmas.List.Elements.{filter_more}
use Rattle.std.proofs.lemmas.List.Sorted.{Contains-permutation, IsPermutation-sym}
use Rattle.std.specs.List.Sorted.{IsPermutation}
use Rattle.re_labels.proofs.OrdersAt.{get_or-splits, length-splits}
use Rattle.re_labels.proofs.Placing.{Pick, Pick-from, Rearranged-Pick, here, picked, there}
use Rattle.re_labels.proofs.Rearranging.{Rearranged-sym}
use Rattle.re_labels.proofs.Sorting.{Rearranged-sorted, length-sorted, sorted-Rearranged, sorted_again, take_all}
use Rattle.re_labels.specs.Configs.{sorted}
use Rattle.re_labels.specs.Orders.{splits}
use Rattle.re_labels.specs.Rearranging.{kept, swapped}
use Rattle.re_labels.proofs.Membership.{AllByRecursion-contains, AllByRecursion-from_contains, Contains-filter, Contains-filter_cases, Contains-flat_map, Contains-flat_map_cases, Contains-here, Contains-later, Contains-map, Contains-map_cases, Contains-In, In-Contains, In-append_cases, In-append_left, In-append_right}
use Rattle.re_labels.proofs.Sets.{IsIn-has, has-IsIn, has-with_label}
use Rattle.re_labels.proofs.Tests.{eqb-same, eqb-true, or-left, or-right, or-true}
use Rattle.std.proofs.lemmas.Bool.{false≢true}
use Rattle.std.proofs.lemmas.List.{take_more, append-nil, map-append}
use Rattle.re_labels.specs.Lists.{IsRising}
use Rattle.re_labels.specs.Sets.{IsIn, has, with_label}
use Rattle.re_step.specs.Rests.{AreRests, MakesPair, rests_of}

-- ---- the rests of one configuration
-- the rests of a configuration, as far as the places below i
abbrev rests_to : List ℕ → List ℕ → ℕ → List (List ℕ)
rests_to set config i = map (λ (split : ℕ × List ℕ). sorted split.1) (filter (λ (split : ℕ × List ℕ). has set split.0) (take i (splits config)))

rests_more : (set config : List ℕ) (i x : ℕ) → i < length config → get_or config i 0 ≡ x
    → rests_to set config (i + 1) ≡ rests_to set config i ++ cond (has set x) (sorted (remove config i) ∷ []) []
rests_more set config i x l e =
    let short : i < length (splits config) = (let n = length-splits config in omega (arith, n)) in
    let at : get_or (splits config) i (x, []) ≡ (x, remove config i) = get_or-splits config i (x, []) l ∙ ap (λ y. (y, remove config i)) e in
    let more : filter (λ (split : ℕ × List ℕ). has set split.0) (take (i + 1) (splits config)) ≡ filter (λ (split : ℕ × List ℕ). has set split.0) (take i (splits config)) ++ cond (has set x) ((x, remove config i) ∷ []) []
    = filter_more (λ (split : ℕ × List ℕ). has set split.0) (splits config) i (x, []) short ∙ ap (λ p. filter (λ (split : ℕ × List ℕ). has set split.0) (take i (splits config)) ++ cond (has set p.0) (p ∷ []) []) at in
    ap (map (λ (split : ℕ × List ℕ). sorted split.1)) more ∙ map-append (λ (split : ℕ × List ℕ). sorted split.1) (filter (λ (split : ℕ × List ℕ). has set split.0) (take i (splits config))) _
    ∙ ap (λ w. rests_to set config i ++ w) (one (has set x))
  where
    one : (b : Bool) → map (λ (split : ℕ × List ℕ). sorted split.1) (cond b ((x, remove config i) ∷ []) []) ≡ cond b (sorted (remove config i) ∷ []) []
    one true = refl
    one false = refl

pub rests_held : (set config : List ℕ) (old now new : List (List ℕ)) (i x : ℕ) → i < length config → get_or config i 0 ≡ x → now ≡ old ++ rests_to set config i → has set x ≡ true
    → new ≡ now ++ sorted (remove config i) ∷ [] → new ≡ old ++ rests_to set config (i + 1)
rests_held set config old now new i x l at e t n =
    n ∙ ap (λ w. w ++ sorted (remove config i) ∷ []) e ∙ append_assoc old (rests_to set config i) (sorted (remove config i) ∷ [])
    ∙ ap (λ w. old ++ w) (ap (λ b. rests_to set config i ++ cond b (sorted (remove config i) ∷ []) []) (sym t) ∙ sym (rests_more set config i x l at))

pub rests_left : (set config : List ℕ) (old now new : List (List ℕ)) (i x : ℕ) → i < length config → get_or config i 0 ≡ x → now ≡ old ++ rests_to set config i → has set x ≡ false
    → new ≡ now → new ≡ old ++ rests_to set config (i + 1)
rests_left set config old now new i x l at e t n =
    n ∙ e ∙ ap (λ w. old ++ w) (sym (append-nil (rests_to set config i)) ∙ ap (λ b. rests_to set config i ++ cond b (sorted (remove config i) ∷ []) []) (sym t) ∙ sym (rests_more set config i x l at))

pub rests_all : (set config : List ℕ) (old now : List (List ℕ)) (i : ℕ) → length config ≤ i → now ≡ old ++ rests_to set config i → now ≡ old ++ rests_of set config
rests_all set config old now i l e =
    e ∙ ap (λ splits. old ++ map (λ (split : ℕ × List ℕ). sorted split.1) (filter (λ (split : ℕ × List ℕ). has set split.0) splits)) (take_all (splits config) i (let n = length-splits config in omega (arith, n)))

-- ---- the rests of configurations
Contains-splits : {y : ℕ} {xs ys : List ℕ} → Pick y xs ys → Contains (splits xs) (y, ys)
Contains-splits {y = y} {ys = ys} here = Contains-here (y, ys) _
Contains-splits {y = y} (there {y = x} {xs = xs} {ys = ys} k) = Contains-later _ _ _ (Contains-map (λ p. (p.0, x ∷ p.1)) (splits xs) (y, ys) (Contains-splits k))

again : (x : ℕ) (others : List ℕ) → sorted (x ∷ sorted others) ≡ sorted (x ∷ others)
again x others = sorted-Rearranged (kept (Rearranged-sym (Rearranged-sorted others)))

pub are_rests : (configs : List (List ℕ)) (set : List ℕ) → AllByRecursion (IsRising (λ x y. x ≤ y)) configs → AreRests configs set (flat_map (rests_of set) configs)
are_rests configs set rise = record {
  from = λ rest held.
      let c = Contains-flat_map_cases (rests_of set) configs rest held in
      let p = Contains-map_cases (λ (split : ℕ × List ℕ). sorted split.1) (filter (λ (split : ℕ × List ℕ). has set split.0) (splits c.0)) rest c.2 in
      let q = Contains-filter_cases (λ (split : ℕ × List ℕ). has set split.0) (splits c.0) p.0 p.1 in
      let whole : sorted (p.0.0 ∷ p.0.1) ≡ c.0 = sorted-Rearranged (Rearranged-sym (Rearranged-Pick (Pick-from c.0 p.0 (Contains-In p.0 (splits c.0) q.0)))) ∙ sorted_again c.0 (AllByRecursion-contains _ configs c.0 rise c.1) in
      let back : sorted (p.0.0 ∷ rest) ≡ c.0 = ap (λ r. sorted (p.0.0 ∷ r)) (sym p.2) ∙ again p.0.0 p.0.1 ∙ whole in
      (p.0.0, has-IsIn set p.0.0 q.1, subst (Contains configs) (sym back) c.1);
  all = λ x others in_set held.
      let k = picked (Rearranged-sorted (x ∷ others)) here in
      let split = Contains-splits k.1 in
      let here_too = Contains-filter (λ (split : ℕ × List ℕ). has set split.0) (splits (sorted (x ∷ others))) (x, k.0) split (IsIn-has set x in_set) in
      subst (Contains (flat_map (rests_of set) configs)) (sym (sorted-Rearranged k.2))
      (Contains-flat_map (rests_of set) configs (sorted (x ∷ others)) (sorted k.0) held (Contains-map (λ (split : ℕ × List ℕ). sorted split.1) (filter (λ (split : ℕ × List ℕ). has set split.0) (splits (sorted (x ∷ others)))) (x, k.0) here_too));
}

-- the same multisets, in another order or more often
pub rests_too : (configs : List (List ℕ)) (set : List ℕ) (rests others : List (List ℕ)) → AreRests configs set rests
    → ((rest : List ℕ) → Contains others rest → Contains rests rest) → ((rest : List ℕ) → Contains rests rest → Contains others rest) → AreRests configs set others
rests_too configs set rests others are f g = record {
  from = λ rest held. are.from rest (f rest held);
  all = λ x left in_set held. g (sorted left) (are.all x left in_set held);
}

-- ---- pairs
pub partner_more : (partners set : List ℕ) (label other : ℕ) → has set label ≡ true
    → (whole : List ℕ) → whole ≡ with_label partners other → (y : ℕ) → Contains whole y ↔ (Contains partners y ⊎ (Contains set label × (y ≡ other)))
partner_more partners set label other t whole e y =
    subst (λ w. Contains w y ↔ (Contains partners y ⊎ (Contains set label × (y ≡ other)))) (sym e) (there', back)
  where
    there' : Contains (with_label partners other) y → Contains partners y ⊎ (Contains set label × (y ≡ other))
    there' held = elim (or-true (eqb other y) (has partners y) (sym (has-with_label partners other y) ∙ IsIn-has (with_label partners other) y held)) [
      | inl e ↦ inr (has-IsIn set label t, sym (eqb-true other y e))
      | inr h ↦ inl (has-IsIn partners y h)
    ]

    back : Contains partners y ⊎ (Contains set label × (y ≡ other)) → Contains (with_label partners other) y
    back (inl h) = has-IsIn (with_label partners other) y (has-with_label partners other y ∙ or-right (eqb other y) (has partners y) (IsIn-has partners y h))
    back (inr (h, e)) = has-IsIn (with_label partners other) y (has-with_label partners other y ∙ or-left (eqb other y) (has partners y) (ap (eqb other) e ∙ eqb-same other))

pub partner_none : (partners set : List ℕ) (label other : ℕ) → has set label ≡ false
    → (y : ℕ) → Contains partners y ↔ (Contains partners y ⊎ (Contains set label × (y ≡ other)))
partner_none partners set label other f y = (inl, back)
  where
    back : Contains partners y ⊎ (Contains set label × (y ≡ other)) → Contains partners y
    back (inl h) = h
    back (inr (h, e)) = absurd (false≢true (sym f ∙ IsIn-has set label h))

pair_of : (x y : ℕ) → (sorted (x ∷ y ∷ []) ≡ x ∷ y ∷ []) ⊎ (sorted (x ∷ y ∷ []) ≡ y ∷ x ∷ [])
pair_of x y = go (leb x y) refl
  where
    go : (b : Bool) → leb x y ≡ b → (sorted (x ∷ y ∷ []) ≡ x ∷ y ∷ []) ⊎ (sorted (x ∷ y ∷ []) ≡ y ∷ x ∷ [])
    go true e = inl (ap (λ b. cond b (x ∷ y ∷ []) (y ∷ x ∷ [])) e)
    go false e = inr (ap (λ b. cond b (x ∷ y ∷ []) (y ∷ x ∷ [])) e)

first_of_pair : (x y a b : ℕ) → x ∷ y ∷ [] ≡ a ∷ b ∷ [] → x ≡ a
first_of_pair x y a b e = ap (λ l. get_or l 0 0) e

second_of_pair : (x y a b : ℕ) → x ∷ y ∷ [] ≡ a ∷ b ∷ [] → y ≡ b
second_of_pair x y a b e = ap (λ l. get_or l 1 0) e

two_labels : (pair : List ℕ) → length pair ≡ 2 → get_or pair 0 0 ∷ get_or pair 1 0 ∷ [] ≡ pair
two_labels [] l = absurd (omega (arith, l))
two_labels (a ∷ []) l = absurd (omega (arith, l))
two_labels (a ∷ b ∷ []) l = refl
two_labels (a ∷ b ∷ c ∷ pair) l = absurd (omega (arith, l))

pub pair_partners : (partners middle whole set pair : List ℕ) (low high : ℕ) → length pair ≡ 2 → IsRising (λ x y. x ≤ y) pair → low ≡ get_or pair 0 0 → high ≡ get_or pair 1 0
    → ((y : ℕ) → Contains middle y ↔ (Contains partners y ⊎ (Contains set low × (y ≡ high))))
    → ((y : ℕ) → Contains whole y ↔ (Contains middle y ⊎ (Contains set high × (y ≡ low))))
    → (y : ℕ) → Contains whole y ↔ (Contains partners y ⊎ MakesPair set y pair)
pair_partners partners middle whole set pair low high two rise l h f g y = (there', back)
  where
    is : low ∷ high ∷ [] ≡ pair
    is = ap (λ a. a ∷ high ∷ []) l ∙ ap (λ b. get_or pair 0 0 ∷ b ∷ []) h ∙ two_labels pair two

    in_order : sorted (low ∷ high ∷ []) ≡ pair
    in_order = ap sorted is ∙ sorted_again pair rise

    turned : sorted (high ∷ low ∷ []) ≡ pair
    turned = sorted-Rearranged (swapped {x = high} {y = low} {xs = []}) ∙ in_order

    there' : Contains whole y → Contains partners y ⊎ MakesPair set y pair
    there' held = elim ((g y).0 held) [
      | inl m ↦ elim ((f y).0 m) [
        | inl p ↦ inl p
        | inr w ↦ inr (low, w.0, ap (λ b. sorted (low ∷ b ∷ [])) w.1 ∙ in_order)
      ]
      | inr w ↦ inr (high, w.0, ap (λ b. sorted (high ∷ b ∷ [])) w.1 ∙ turned)
    ]

    back : Contains partners y ⊎ MakesPair set y pair → Contains whole y
    back (inl p) = (g y).1 (inl ((f y).1 (inl p)))
    back (inr (x, in_set, e)) = elim (pair_of x y) [
      | inl same ↦
          let whole_is : x ∷ y ∷ [] ≡ low ∷ high ∷ [] = sym same ∙ e ∙ sym is in
          (g y).1 (inl ((f y).1 (inr (subst (Contains set) (first_of_pair x y low high whole_is) in_set, second_of_pair x y low high whole_is))))
      | inr other ↦
          let whole_is : y ∷ x ∷ [] ≡ low ∷ high ∷ [] = sym other ∙ e ∙ sym is in
          (g y).1 (inr (subst (Contains set) (second_of_pair y x low high whole_is) in_set, first_of_pair y x low high whole_is))
    ]

one_label : (others : List ℕ) → length others ≡ 1 → (y : ℕ) × (others ≡ y ∷ [])
one_label [] l = absurd (omega (arith, l))
one_label (y ∷ []) l = (y, refl)
one_label (y ∷ z ∷ others) l = absurd (omega (arith, l))

pub Contains-more : (pairs : List (List ℕ)) (pair z : List ℕ) → Contains (pairs ++ pair ∷ []) z → Contains pairs z ⊎ (z ≡ pair)
Contains-more pairs pair z held = elim (In-append_cases z pairs (pair ∷ []) (Contains-In z (pairs ++ pair ∷ []) held)) [
  | inl i ↦ inl (In-Contains z pairs i)
  | inr (inl e) ↦ inr e
  | inr (inr n) ↦ absurd n
]

more-Contains : (pairs : List (List ℕ)) (pair z : List ℕ) → Contains pairs z ⊎ (z ≡ pair) → Contains (pairs ++ pair ∷ []) z
more-Contains pairs pair z (inl held) = In-Contains z (pairs ++ pair ∷ []) (In-append_left z pairs (pair ∷ []) (Contains-In z pairs held))
more-Contains pairs pair z (inr e) = In-Contains z (pairs ++ pair ∷ []) (In-append_right z pairs (pair ∷ []) (inl e))

pub pairs_step : (pairs : List (List ℕ)) (i : ℕ) (pair set partners more : List ℕ) → i < length pairs → pair ≡ get_or pairs i pair → length pair ≡ 2
    → ((y : ℕ) → Contains more y ↔ (Contains partners y ⊎ MakesPair set y pair))
    → AreRests (take i pairs) set (map (λ y. y ∷ []) partners) → AreRests (take (i + 1) pairs) set (map (λ y. y ∷ []) more)
pairs_step pairs i pair set partners more l at two f are = record { from = from'; all = all' }
  where
    longer : take (i + 1) pairs ≡ take i pairs ++ pair ∷ []
    longer = take_more pairs i pair l ∙ ap (λ p. take i pairs ++ p ∷ []) (sym at)

    from' : (rest : List ℕ) → Contains (map (λ y. y ∷ []) more) rest → (x : ℕ) × IsIn x set × Contains (take (i + 1) pairs) (sorted (x ∷ rest))
    from' rest held =
        let m = Contains-map_cases (λ y. y ∷ []) more rest held in
        elim ((f m.0).0 m.1) [
          | inl p ↦
              let r = are.from (m.0 ∷ []) (Contains-map (λ y. y ∷ []) partners m.0 p) in
              (r.0, r.1, subst (Contains (take (i + 1) pairs)) (ap (λ w. sorted (r.0 ∷ w)) m.2) (subst (λ w. Contains w (sorted (r.0 ∷ m.0 ∷ []))) (sym longer) (more-Contains (take i pairs) pair _ (inl r.2))))
          | inr w ↦
              (w.0, w.1, subst (Contains (take (i + 1) pairs)) (ap (λ v. sorted (w.0 ∷ v)) m.2) (subst (λ v. Contains v (sorted (w.0 ∷ m.0 ∷ []))) (sym longer) (more-Contains (take i pairs) pair _ (inr w.2))))
        ]

    all' : (x : ℕ) (others : List ℕ) → IsIn x set → Contains (take (i + 1) pairs) (sorted (x ∷ others)) → Contains (map (λ y. y ∷ []) more) (sorted others)
    all' x others in_set held = elim (Contains-more (take i pairs) pair (sorted (x ∷ others)) (subst (λ v. Contains v (sorted (x ∷ others))) longer held)) [
      | inl h ↦
          let m = Contains-map_cases (λ y. y ∷ []) partners (sorted others) (are.all x others in_set h) in
          subst (Contains (map (λ y. y ∷ []) more)) m.2 (Contains-map (λ y. y ∷ []) more m.0 ((f m.0).1 (inl m.1)))
      | inr e ↦
          let size : length (x ∷ others) ≡ 2 = sym (length-sorted (x ∷ others)) ∙ ap length e ∙ two in
          let one = one_label others (omega (arith, size)) in
          let alone : sorted others ≡ one.0 ∷ [] = ap sorted one.1 in
          subst (Contains (map (λ y. y ∷ []) more)) (sym alone)
          (Contains-map (λ y. y ∷ []) more one.0 ((f one.0).1 (inr (x, in_set, sym (ap (λ o. sorted (x ∷ o)) one.1) ∙ e))))
    ]

-- ---- once each
pub once_more : (configs held_now new : List (List ℕ)) (i : ℕ) (config : List ℕ) → i < length configs → config ≡ get_or configs i config → ((z : List ℕ) → Contains held_now z ↔ Contains (take i configs) z)
    → new ≡ held_now ++ config ∷ [] → (z : List ℕ) → Contains new z ↔ Contains (take (i + 1) configs) z
once_more configs held_now new i config l at f n z =
    let longer : take (i + 1) configs ≡ take i configs ++ config ∷ [] = take_more configs i config l ∙ ap (λ p. take i configs ++ p ∷ []) (sym at) in (
      λ h. subst (λ w. Contains w z) (sym longer) (more-Contains (take i configs) config z (elim (Contains-more held_now config z (subst (λ w. Contains w z) n h)) [ inl k ↦ inl ((f z).0 k) | inr e ↦ inr e ])),
      λ h. subst (λ w. Contains w z) (sym n) (more-Contains held_now config z (elim (Contains-more (take i configs) config z (subst (λ w. Contains w z) longer h)) [ inl k ↦ inl ((f z).1 k) | inr e ↦ inr e ])),
    )

pub once_held : (configs held_now : List (List ℕ)) (i : ℕ) (config : List ℕ) → i < length configs → config ≡ get_or configs i config → ((z : List ℕ) → Contains held_now z ↔ Contains (take i configs) z)
    → Contains held_now config → (z : List ℕ) → Contains held_now z ↔ Contains (take (i + 1) configs) z
once_held configs held_now i config l at f here_too z =
    let longer : take (i + 1) configs ≡ take i configs ++ config ∷ [] = take_more configs i config l ∙ ap (λ p. take i configs ++ p ∷ []) (sym at) in (
      λ h. subst (λ w. Contains w z) (sym longer) (more-Contains (take i configs) config z (inl ((f z).0 h))),
      λ h. elim (Contains-more (take i configs) config z (subst (λ w. Contains w z) longer h)) [ inl k ↦ (f z).1 k | inr e ↦ subst (Contains held_now) (sym e) here_too ],
    )

pub once_all : (configs held_now : List (List ℕ)) (i : ℕ) → length configs ≤ i → ((z : List ℕ) → Contains held_now z ↔ Contains (take i configs) z) → (z : List ℕ) → Contains held_now z ↔ Contains configs z
once_all configs held_now i l f z = subst (λ t. Contains held_now z ↔ Contains t z) (take_all configs i l) (f z)

-- ---- all of it: in order, and once each
pub rests_in_order : (configs : List (List ℕ)) (set : List ℕ) (all moved seen once : List (List ℕ)) → AllByRecursion (IsRising (λ x y. x ≤ y)) configs → all ≡ flat_map (rests_of set) configs → IsPermutation all moved
    → seen ≡ moved → ((z : List ℕ) → Contains once z ↔ Contains seen z) → AreRests configs set once
rests_in_order configs set all moved seen once rise is order same f =
    rests_too configs set all once (subst (AreRests configs set) (sym is) (are_rests configs set rise))
    (λ rest held. Contains-permutation moved all rest (IsPermutation-sym all moved order) (subst (λ w. Contains w rest) same ((f rest).0 held)))
    (λ rest held. (f rest).1 (subst (λ w. Contains w rest) (sym same) (Contains-permutation all moved rest order held)))

pub rests_alike : (configs : List (List ℕ)) (set : List ℕ) (rests : List (List ℕ)) (size : ℕ) → AllByRecursion (λ config. length config ≡ size) configs → AreRests configs set rests → AllByRecursion (λ rest. length rest + 1 ≡ size) rests
rests_alike configs set rests size alike are = AllByRecursion-from_contains (λ rest. length rest + 1 ≡ size) rests (λ rest held.
    let f = are.from rest held in
    let size_is : length (sorted (f.0 ∷ rest)) ≡ size = AllByRecursion-contains (λ config. length config ≡ size) configs (sorted (f.0 ∷ rest)) alike f.2 in
    let longer : length (sorted (f.0 ∷ rest)) ≡ length (f.0 ∷ rest) = length-sorted (f.0 ∷ rest) in
    omega (arith, size_is, longer))
