-- The labels below a number in a list, and those from it on; lists in which nothing stands twice; choices from sets of one label.
use Rattle.std.proofs.Common.{◌≡◌, ℕ, suc, ◌+◌, ◌≤◌, ◌<◌, Bool, true, false, cond, ltb, ◌&&◌, List, [], ◌∷◌, filter, map, length, refl, sym, ◌∙◌, ap, subst, arith, inl, inr}
use Rattle.std.specs.Prelude.{Contains, not, replicate}
use Rattle.std.proofs.lemmas.Bool.{le-ltb}
use Rattle.re_labels.proofs.Rearranging.{Rearranged-refl}
use Rattle.re_labels.specs.Rearranging.{Rearranged, chained, kept, swapped, unmoved}
use Rattle.re_labels.specs.Rows.{IsChoice}
use Rattle.re_labels.proofs.Membership.{Contains-cases, Contains-here, Contains-later, Contains-map, Contains-none, Distinct}
use Rattle.re_labels.proofs.Sets.{IsIn-has, has-IsIn}
use Rattle.re_labels.proofs.Tests.{and-true, true-and, true-below}
use Rattle.re_labels.specs.Sets.{has}

-- ---- two parts
-- the labels below n
abbrev pub put_out : ℕ → List ℕ → List ℕ
put_out n zs = filter (λ z. ltb z n) zs

-- those from n on
abbrev pub waiting : ℕ → List ℕ → List ℕ
waiting n zs = filter (λ z. not (ltb z n)) zs

pub put_out_low : (n z : ℕ) (zs : List ℕ) → z < n → put_out n (z ∷ zs) ≡ z ∷ put_out n zs
put_out_low n z zs low = subst (λ b. cond b (z ∷ put_out n zs) (put_out n zs) ≡ z ∷ put_out n zs) (sym (true-below z n low)) refl

pub put_out_high : (n z : ℕ) (zs : List ℕ) → n ≤ z → put_out n (z ∷ zs) ≡ put_out n zs
put_out_high n z zs high = subst (λ b. cond b (z ∷ put_out n zs) (put_out n zs) ≡ put_out n zs) (sym (le-ltb z n high)) refl

pub waiting_low : (n z : ℕ) (zs : List ℕ) → z < n → waiting n (z ∷ zs) ≡ waiting n zs
waiting_low n z zs low = subst (λ b. cond (not b) (z ∷ waiting n zs) (waiting n zs) ≡ waiting n zs) (sym (true-below z n low)) refl

pub waiting_high : (n z : ℕ) (zs : List ℕ) → n ≤ z → waiting n (z ∷ zs) ≡ z ∷ waiting n zs
waiting_high n z zs high = subst (λ b. cond (not b) (z ∷ waiting n zs) (waiting n zs) ≡ z ∷ waiting n zs) (sym (le-ltb z n high)) refl

pub put_out_all : (n : ℕ) (zs : List ℕ) → ((z : ℕ) → Contains zs z → z < n) → put_out n zs ≡ zs
put_out_all n [] each = refl
put_out_all n (z ∷ zs) each =
    put_out_low n z zs (each z (Contains-here z zs)) ∙ ap (λ ws. z ∷ ws) (put_out_all n zs (λ w at. each w (Contains-later w z zs at)))

pub put_out_none : (n : ℕ) (xs : List ℕ) → put_out n (map (λ x. n + x) xs) ≡ []
put_out_none n [] = refl
put_out_none n (x ∷ xs) = put_out_high n (n + x) (map (λ x. n + x) xs) (omega arith) ∙ put_out_none n xs

pub waiting_all : (n : ℕ) (xs : List ℕ) → waiting n (map (λ x. n + x) xs) ≡ map (λ x. n + x) xs
waiting_all n [] = refl
waiting_all n (x ∷ xs) = waiting_high n (n + x) (map (λ x. n + x) xs) (omega arith) ∙ ap (λ ws. (n + x) ∷ ws) (waiting_all n xs)

pub put_out_most : (n : ℕ) (zs : List ℕ) → length (put_out n zs) ≤ length zs
put_out_most n [] = omega arith
put_out_most n (z ∷ zs) = at (ltb z n) (put_out_most n zs)
  where
    at : (b : Bool) → length (put_out n zs) ≤ length zs → length (cond b (z ∷ put_out n zs) (put_out n zs)) ≤ suc (length zs)
    at true l = omega (arith, l)
    at false l = omega (arith, l)

pub Rearranged-filter : (test : ℕ → Bool) {xs ys : List ℕ} → Rearranged xs ys → Rearranged (filter test xs) (filter test ys)
Rearranged-filter test unmoved = unmoved
Rearranged-filter test (kept {x = x} {xs = xs} {ys = ys} h) = at (test x) (Rearranged-filter test h)
  where
    at : (b : Bool) → Rearranged (filter test xs) (filter test ys) → Rearranged (cond b (x ∷ filter test xs) (filter test xs)) (cond b (x ∷ filter test ys) (filter test ys))
    at true r = kept r
    at false r = r
Rearranged-filter test (swapped {x = x} {y = y} {xs = xs}) = at (test x) (test y)
  where
    at : (b d : Bool) → Rearranged (cond b (x ∷ cond d (y ∷ filter test xs) (filter test xs)) (cond d (y ∷ filter test xs) (filter test xs)))
        (cond d (y ∷ cond b (x ∷ filter test xs) (filter test xs)) (cond b (x ∷ filter test xs) (filter test xs)))
    at true true = swapped
    at true false = kept (Rearranged-refl (filter test xs))
    at false true = kept (Rearranged-refl (filter test xs))
    at false false = Rearranged-refl (filter test xs)
Rearranged-filter test (chained h i) = chained (Rearranged-filter test h) (Rearranged-filter test i)

-- ---- nothing twice
-- whether nothing stands twice
abbrev pub is_distinct : List ℕ → Bool
is_distinct [] = true
is_distinct (x ∷ xs) = not (has xs x) && is_distinct xs

pub is_distinct-Distinct : (xs : List ℕ) → is_distinct xs ≡ true → Distinct xs
is_distinct-Distinct [] h = tt
is_distinct-Distinct (x ∷ xs) h =
    let (none, rest) = and-true (not (has xs x)) (is_distinct xs) h in
    (λ held. (let one : has xs x ≡ true = IsIn-has xs x held in absurd (cc)), is_distinct-Distinct xs rest)

pub Distinct-is_distinct : (xs : List ℕ) → Distinct xs → is_distinct xs ≡ true
Distinct-is_distinct [] d = refl
Distinct-is_distinct (x ∷ xs) d = true-and (not (has xs x)) (is_distinct xs) (at (has xs x) refl) (Distinct-is_distinct xs d.1)
  where
    at : (b : Bool) → has xs x ≡ b → not b ≡ true
    at true e = absurd (d.0 (has-IsIn xs x e))
    at false e = refl

-- with different images, an element is known by its image
pub known_by : (f : ℕ → ℕ) (xs : List ℕ) (z w : ℕ) → Distinct (map f xs) → Contains xs z → Contains xs w → f z ≡ f w → z ≡ w
known_by f [] z w d z_in w_in same = absurd (Contains-none z z_in)
known_by f (x ∷ xs) z w d z_in w_in same = elim (Contains-cases z x xs z_in) [
  | inl e ↦ elim (Contains-cases w x xs w_in) [
    | inl e' ↦ e ∙ sym e'
    | inr there ↦ absurd (d.0 (subst (Contains (map f xs)) (sym same ∙ ap f e) (Contains-map f xs w there)))
  ]
  | inr here ↦ elim (Contains-cases w x xs w_in) [
    | inl e' ↦ absurd (d.0 (subst (Contains (map f xs)) (same ∙ ap f e') (Contains-map f xs z here)))
    | inr there ↦ known_by f xs z w d.1 here there same
  ]
]

-- ---- choices
pub choice_only : (f : ℕ → List ℕ) (zs ys : List ℕ) → ((z y : ℕ) → Contains zs z → Contains (f z) y → y ≡ z) → IsChoice ys (map f zs) → ys ≡ zs
choice_only f [] [] only chosen = refl
choice_only f [] (y ∷ ys) only chosen = absurd chosen
choice_only f (z ∷ zs) [] only chosen = absurd chosen
choice_only f (z ∷ zs) (y ∷ ys) only chosen =
    let first : y ≡ z = only z y (Contains-here z zs) chosen.0 in
    let rest : ys ≡ zs = choice_only f zs ys (λ w v at. only w v (Contains-later w z zs at)) chosen.1 in
    ap (λ y. y ∷ ys) first ∙ ap (λ ys. z ∷ ys) rest

pub chosen_each : (g : ℕ → List ℕ) (h : ℕ → ℕ) (zs : List ℕ) → ((z : ℕ) → Contains zs z → Contains (g z) (h z)) → IsChoice (map h zs) (map g zs)
chosen_each g h [] each = tt
chosen_each g h (z ∷ zs) each = (each z (Contains-here z zs), chosen_each g h zs (λ w at. each w (Contains-later w z zs at)))

pub chosen_itself : (f : ℕ → List ℕ) (zs : List ℕ) → ((z : ℕ) → Contains zs z → Contains (f z) z) → IsChoice zs (map f zs)
chosen_itself f [] each = tt
chosen_itself f (z ∷ zs) each = (each z (Contains-here z zs), chosen_itself f zs (λ w at. each w (Contains-later w z zs at)))

pub all_alike : (f : ℕ → ℕ) (x : ℕ) (labels : List ℕ) → ((y : ℕ) → Contains labels y → f y ≡ x) → map f labels ≡ replicate (length labels) x
all_alike f x [] each = refl
all_alike f x (u ∷ labels) each =
    let first : f u ≡ x = each u (Contains-here u labels) in
    let rest : map f labels ≡ replicate (length labels) x = all_alike f x labels (λ y at. each y (Contains-later y u labels at)) in
    ap (λ y. y ∷ map f labels) first ∙ ap (λ ys. x ∷ ys) rest
