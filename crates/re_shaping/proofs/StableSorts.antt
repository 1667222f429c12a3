-- A list that was sorted, its ties in their order, is the list in order.
use Rattle.std.proofs.Common.{◌≡◌, ℕ, zero, suc, ◌+◌, ◌<◌, ◌≤◌, Bool, true, false, not, ◌&&◌, cond, List, [], ◌∷◌, length, get_or, refl, sym, ap, ◌∙◌, subst, arith}
use Rattle.std.proofs.lemmas.List.Sorted.{IsPermutation-cons, IsPermutation-middle, IsPermutation-refl, IsPermutation-trans, sorted_far}
use Rattle.std.specs.Cmp.{IsStrictWeakOrder}
use Rattle.std.specs.List.{AllByRecursion}
use Rattle.std.specs.List.Sorted.{IsPermutation, IsSortedBy, IsStableBy, ties}
use Rattle.std.specs.Prelude.{filter}
use Rattle.re_shaping.specs.Ordered.{IsInOrder}
use Rattle.re_shaping.specs.Orders.{in_order, inserted}

module _ {X : Type 0} (before : X → X → Bool) (order : IsStrictWeakOrder before) where
  -- no element of the list is before x
  abbrev Above : X → List X → Type 0
  Above x ys = AllByRecursion (λ y. before y x ≡ false) ys

  -- no element is before one in front of it
  abbrev Up : List X → Type 0
  Up [] = Unit {0}
  Up (x ∷ xs) = Above x xs × Up xs

  not_before_self : (x : X) → before x x ≡ false
  not_before_self x = go (before x x) refl
    where
      go : (b : Bool) → before x x ≡ b → before x x ≡ false
      go false e = e
      go true e = order.one_way x x e

  tied : (x y : X) → before x y ≡ false → before y x ≡ false → ties before x y ≡ true
  tied x y p q = ap (λ b. not b && not (before y x)) p ∙ ap not q

  kept : (z x : X) (xs : List X) → ties before z x ≡ true → filter (ties before z) (x ∷ xs) ≡ x ∷ filter (ties before z) xs
  kept z x xs t = ap (λ b. cond b (x ∷ filter (ties before z) xs) (filter (ties before z) xs)) t

  kept_first : (x : X) (xs : List X) → filter (ties before x) (x ∷ xs) ≡ x ∷ filter (ties before x) xs
  kept_first x xs = kept x x xs (tied x x (not_before_self x) (not_before_self x))

  -- ---- sorted lists
  above_of : (x : X) (ys : List X) → ((k : ℕ) (d : X) → k < length ys → before (get_or ys k d) x ≡ false) → Above x ys
  above_of x [] below = tt
  above_of x (y ∷ ys) below = (below 0 y (omega arith), above_of x ys (λ k d h. below (suc k) d (omega arith)))

  up_of : (xs : List X) → ((i j : ℕ) (d : X) → i ≤ j → j < length xs → before (get_or xs j d) (get_or xs i d) ≡ false) → Up xs
  up_of [] far = tt
  up_of (x ∷ xs) far = (above_of x xs (λ k d h. far 0 (suc k) d (omega arith) (omega arith)), up_of xs (λ i j d p q. far (suc i) (suc j) d (omega arith) (omega arith)))

  first_kept : (p : X → Bool) (P : X → Type 0) (x : X) (rest ys : List X) → filter p ys ≡ x ∷ rest → AllByRecursion P ys → P x
  first_kept p P x rest [] e all = absurd (cc)
  first_kept p P x rest (y ∷ ys) e all = go (p y) e (λ f. first_kept p P x rest ys f all.1)
    where
      go : (b : Bool) → cond b (y ∷ filter p ys) (filter p ys) ≡ x ∷ rest → (filter p ys ≡ x ∷ rest → P x) → P x
      go true f others = let same : y ≡ x = cc in subst P same all.0
      go false f others = others f

  -- ---- two sorted lists with the same ties
  same_first : (x y : X) (xs ys : List X) → Above x xs → Above y ys → ((z : X) → filter (ties before z) (x ∷ xs) ≡ filter (ties before z) (y ∷ ys)) → x ≡ y
  same_first x y xs ys u v same =
      let there : filter (ties before x) (y ∷ ys) ≡ x ∷ filter (ties before x) xs = sym (same x) ∙ kept_first x xs in
      let back : filter (ties before y) (x ∷ xs) ≡ y ∷ filter (ties before y) ys = same y ∙ kept_first y ys in
      let low : before x y ≡ false = first_kept (ties before x) (λ z. before z y ≡ false) x (filter (ties before x) xs) (y ∷ ys) there (not_before_self y, v) in
      let high : before y x ≡ false = first_kept (ties before y) (λ z. before z x ≡ false) y (filter (ties before y) ys) (x ∷ xs) back (not_before_self x, u) in
      let one : x ∷ filter (ties before x) xs ≡ y ∷ filter (ties before x) ys = sym there ∙ kept x y ys (tied x y low high) in
      cc

  same_rest : (x y : X) (xs ys : List X) → x ≡ y → (z : X) → filter (ties before z) (x ∷ xs) ≡ filter (ties before z) (y ∷ ys) → filter (ties before z) xs ≡ filter (ties before z) ys
  same_rest x y xs ys e z same = go (ties before z x) (same ∙ ap (λ w. filter (ties before z) (w ∷ ys)) (sym e))
    where
      go : (b : Bool) → cond b (x ∷ filter (ties before z) xs) (filter (ties before z) xs) ≡ cond b (x ∷ filter (ties before z) ys) (filter (ties before z) ys)
          → filter (ties before z) xs ≡ filter (ties before z) ys
      go true f = cc
      go false f = f

  same_lists : (xs ys : List X) → Up xs → Up ys → ((z : X) → filter (ties before z) xs ≡ filter (ties before z) ys) → xs ≡ ys
  same_lists [] [] u v same = refl
  same_lists [] (y ∷ ys) u v same = let none : [] ≡ y ∷ filter (ties before y) ys = same y ∙ kept_first y ys in absurd (cc)
  same_lists (x ∷ xs) [] u v same = let none : x ∷ filter (ties before x) xs ≡ [] = sym (kept_first x xs) ∙ same x in absurd (cc)
  same_lists (x ∷ xs) (y ∷ ys) u v same =
      let e = same_first x y xs ys u.0 v.0 same in
      ap (λ z. z ∷ xs) e ∙ ap (λ l. y ∷ l) (same_lists xs ys u.1 v.1 (λ z. same_rest x y xs ys e z (same z)))

  -- ---- the list in order
  all_inserted : (P : X → Type 0) (x : X) (ys : List X) → P x → AllByRecursion P ys → AllByRecursion P (inserted before x ys)
  all_inserted P x [] here all = (here, tt)
  all_inserted P x (y ∷ ys) here all = go (before y x) (all_inserted P x ys here all.1)
    where
      go : (b : Bool) → AllByRecursion P (inserted before x ys) → AllByRecursion P (cond b (y ∷ inserted before x ys) (x ∷ y ∷ ys))
      go true rest = (all.0, rest)
      go false rest = (here, all)

  above_more : (x y : X) (zs : List X) → before y x ≡ false → Above y zs → Above x zs
  above_more x y [] low up = tt
  above_more x y (z ∷ zs) low up = (order.chain z y x up.0 low, above_more x y zs low up.1)

  up_inserted : (x : X) (ys : List X) → Up ys → Up (inserted before x ys)
  up_inserted x [] up = (tt, tt)
  up_inserted x (y ∷ ys) up = go (before y x) refl (up_inserted x ys up.1)
    where
      go : (b : Bool) → before y x ≡ b → Up (inserted before x ys) → Up (cond b (y ∷ inserted before x ys) (x ∷ y ∷ ys))
      go true e rest = (all_inserted (λ w. before w y ≡ false) x ys (order.one_way y x e) up.0, rest)
      go false e rest = ((e, above_more x y ys e up.0), up)

  up_in_order : (xs : List X) → Up (in_order before xs)
  up_in_order [] = tt
  up_in_order (x ∷ xs) = up_inserted x (in_order before xs) (up_in_order xs)

  apart : (x y z : X) → before y x ≡ true → ties before z y ≡ true → ties before z x ≡ false
  apart x y z less tie = go (before z x) refl (before y z) refl (before z y) tie
    where
      go : (b : Bool) → before z x ≡ b → (c : Bool) → before y z ≡ c → (d : Bool) → (not d && not (before y z)) ≡ true → ties before z x ≡ false
      go true e c f d t = ap (λ b. not b && not (before x z)) e
      go false e false f d t = let wrong : before y x ≡ false = order.chain y z x f e in absurd (cc)
      go false e true f true t = absurd (cc)
      go false e true f false t = let wrong : not (before y z) ≡ true = t in absurd (let bad : not true ≡ true = ap not (sym f) ∙ wrong in cc)

  exchanged : (x y : X) (others placed : List X) (t s : Bool) → (t ≡ true → s ≡ false) → placed ≡ cond s (x ∷ others) others
      → cond t (y ∷ placed) placed ≡ cond s (x ∷ cond t (y ∷ others) others) (cond t (y ∷ others) others)
  exchanged x y others placed false s apart e = e
  exchanged x y others placed true false apart e = ap (λ l. y ∷ l) e
  exchanged x y others placed true true apart e = let wrong : true ≡ false = apart refl in absurd (cc)

  ties_inserted : (z x : X) (ys : List X) → filter (ties before z) (inserted before x ys) ≡ filter (ties before z) (x ∷ ys)
  ties_inserted z x [] = refl
  ties_inserted z x (y ∷ ys) = go (before y x) refl (ties_inserted z x ys)
    where
      go : (b : Bool) → before y x ≡ b → filter (ties before z) (inserted before x ys) ≡ filter (ties before z) (x ∷ ys)
          → filter (ties before z) (cond b (y ∷ inserted before x ys) (x ∷ y ∷ ys)) ≡ filter (ties before z) (x ∷ y ∷ ys)
      go true e rest = exchanged x y (filter (ties before z) ys) (filter (ties before z) (inserted before x ys)) (ties before z y) (ties before z x) (apart x y z e) rest
      go false e rest = refl

  ties_in_order : (xs : List X) (z : X) → filter (ties before z) (in_order before xs) ≡ filter (ties before z) xs
  ties_in_order [] z = refl
  ties_in_order (x ∷ xs) z =
      ties_inserted z x (in_order before xs) ∙ ap (λ l. cond (ties before z x) (x ∷ l) l) (ties_in_order xs z)

  pub sorted_in_order : (xs ys : List X) → IsSortedBy before ys → IsStableBy before xs ys → ys ≡ in_order before xs
  sorted_in_order xs ys sorted stable =
      same_lists ys (in_order before xs) (up_of ys (sorted_far before order ys sorted)) (up_in_order xs) (λ z. stable z ∙ sym (ties_in_order xs z))

  -- ---- what the list in order is
  -- no element is before the one in front of it
  next_up : (xs : List X) → Up xs → (k : ℕ) (d : X) → suc k < length xs → before (get_or xs (suc k) d) (get_or xs k d) ≡ false
  next_up [] up k d low = absurd (omega arith)
  next_up (x ∷ []) up k d low = absurd (omega arith)
  next_up (x ∷ y ∷ ys) up zero d low = up.0.0
  next_up (x ∷ y ∷ ys) up (suc k) d low = next_up (y ∷ ys) up.1 k d (omega arith)

  sorted_up : (xs : List X) → Up xs → IsSortedBy before xs
  sorted_up xs up k d low more =
      let e : suc k ≡ k + 1 = omega arith in
      let inside : suc k < length xs = omega arith in
      subst (λ m. before (get_or xs m d) (get_or xs k d) ≡ false) e (next_up xs up k d inside)

  -- the elements are those that there were
  same_inserted : (x : X) (ys : List X) → IsPermutation (x ∷ ys) (inserted before x ys)
  same_inserted x [] = IsPermutation-refl (x ∷ [])
  same_inserted x (y ∷ ys) = go (before y x) (same_inserted x ys)
    where
      go : (b : Bool) → IsPermutation (x ∷ ys) (inserted before x ys) → IsPermutation (x ∷ y ∷ ys) (cond b (y ∷ inserted before x ys) (x ∷ y ∷ ys))
      go true rest =
          IsPermutation-trans (x ∷ y ∷ ys) (y ∷ x ∷ ys) (y ∷ inserted before x ys) (IsPermutation-middle (x ∷ []) y ys) (IsPermutation-cons y (x ∷ ys) (inserted before x ys) rest)
      go false rest = IsPermutation-refl (x ∷ y ∷ ys)

  same_in_order : (xs : List X) → IsPermutation xs (in_order before xs)
  same_in_order [] = IsPermutation-refl []
  same_in_order (x ∷ xs) =
      IsPermutation-trans (x ∷ xs) (x ∷ in_order before xs) (inserted before x (in_order before xs)) (IsPermutation-cons x xs (in_order before xs) (same_in_order xs)) (same_inserted x (in_order before xs))

  pub in_order-law : (xs : List X) → IsInOrder before xs (in_order before xs)
  in_order-law xs = record { same = same_in_order xs; ascends = sorted_up (in_order before xs) (up_in_order xs); stable = ties_in_order xs }
