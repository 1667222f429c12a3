-- Rows by the numbers of their sets: all of them are there, in order.
use Rattle.std.specs.Ordering.{nat_cmp, ordering_then}
use Rattle.std.specs.Cmp.Lexicographic.{slice_cmp}
use Rattle.std.proofs.Common.{List, [], ap, arith, length, ltb, map, refl, subst, suc, sym, true, zero, ℕ, ◌*◌, ◌+◌, ◌-◌, ◌<◌, ◌^◌, ◌∙◌, ◌∷◌, ◌≡◌, ◌≤◌}
use Rattle.std.specs.List.{AllByRecursion}
use Rattle.std.specs.declared.cmp.Ordering.TheVariants.{Less}
use Rattle.std.proofs.lemmas.Nat.{pow_pos}
use Rattle.std.proofs.lemmas.Bool.Decides.{nat_tests}
use Rattle.re_labels.proofs.AllMultisets.{In-multisets, In-multisets_from, IsMultiset, Steps, rising-multisets, rising_steps}
use Rattle.re_labels.proofs.Rearranging.{Rearranged-map, length-Rearranged}
use Rattle.re_labels.proofs.Sorting.{AllByRecursion-Rearranged, Rearranged-sorted, length-sorted, same_rising, sorted_rises}
use Rattle.re_labels.specs.Configs.{sorted}
use Rattle.re_labels.specs.Orders.{multisets}
use Rattle.re_labels.specs.Rearranging.{Rearranged, chained, kept, swapped, unmoved}
use Rattle.re_labels.specs.Rows.{Dominates, IsRow, IsUnder, all_rows, is_full, row_cmp, set_at}
use Rattle.re_labels.proofs.Membership.{AllByRecursion-In, AllByRecursion-weaker, In, In-map, In-map_from, length-map'}
use Rattle.re_labels.proofs.Numbers.{IsLabelSet-set_of, number-Sub, set_of-number}
use Rattle.re_labels.proofs.Rising.{rising-map}
use Rattle.re_labels.proofs.Sets.{IsWithin-Sub}
use Rattle.re_labels.proofs.Tests.{and-true}
use Rattle.re_labels.specs.Inverse.{number-set_of}
use Rattle.re_labels.specs.Lists.{IsBefore, IsRising}
use Rattle.re_labels.specs.Sets.{IsLabelSet, number, set_of}

abbrev pub AreSets : ℕ → List (List ℕ) → Type 0
AreSets n r = AllByRecursion (λ s. IsLabelSet n s × (0 < length s)) r

abbrev pub total : List (List ℕ) → ℕ
total [] = 0
total (s ∷ r) = number s + total r

pub total-Rearranged : {r t : List (List ℕ)} → Rearranged r t → total r ≡ total t
total-Rearranged unmoved = refl
total-Rearranged (kept {x = s} p) = ap (λ m. number s + m) (total-Rearranged p)
total-Rearranged (swapped {x = s} {y = u} {xs = r}) = omega arith
total-Rearranged (chained p q) = total-Rearranged p ∙ total-Rearranged q

pub AreSets-Rearranged : (n : ℕ) {r t : List (List ℕ)} → Rearranged r t → AreSets n r → AreSets n t
AreSets-Rearranged n unmoved h = h
AreSets-Rearranged n (kept p) h = (h.0, AreSets-Rearranged n p h.1)
AreSets-Rearranged n swapped h = (h.1.0, (h.0, h.1.1))
AreSets-Rearranged n (chained p q) h = AreSets-Rearranged n q (AreSets-Rearranged n p h)

pub under_total : (n : ℕ) (r t : List (List ℕ)) → AreSets n r → AreSets n t → IsUnder r t → (total r ≤ total t) × (total t ≤ total r → r ≡ t)
under_total n [] [] h k u = (omega arith, λ _. refl)
under_total n [] (w ∷ t) h k u = absurd u
under_total n (s ∷ r) [] h k u = absurd u
under_total n (s ∷ r) (w ∷ t) h k u =
    let one = number-Sub s w h.0.0.0 k.0.0.0 (IsWithin-Sub s w u.0) in
    let more = under_total n r t h.1 k.1 u.1 in
    (omega (arith, one.0, more.0), λ le. (λ i. one.1 (omega (arith, one.0, more.0)) i ∷ more.1 (omega (arith, one.0, more.0)) i))

pub total_below : (n : ℕ) (r : List (List ℕ)) → AreSets n r → total r ≤ length r * 2 ^ n
total_below n [] h = omega arith
total_below n (s ∷ r) h =
    let one : number s < 2 ^ n = (set_of-number n s h.0.0).0 in
    let more : total r ≤ length r * 2 ^ n = total_below n r h.1 in
    omega arith

-- a row by the numbers of its sets
pub row_numbers : (n : ℕ) (r : List (List ℕ)) → AreSets n r → map (set_of n) (map number r) ≡ r
row_numbers n [] h = refl
row_numbers n (s ∷ r) h = λ i. (set_of-number n s h.0.0).1 i ∷ row_numbers n r h.1 i

pub numbers_back : (n : ℕ) (v : List ℕ) → AllByRecursion (λ x. x < 2 ^ n) v → map number (map (set_of n) v) ≡ v
numbers_back n [] h = refl
numbers_back n (x ∷ v) h = λ i. number-set_of n x h.0 i ∷ numbers_back n v h.1 i

rising_numbers : (r : List (List ℕ)) → IsRising (λ s t. number s ≤ number t) r → IsRising (λ x y. x ≤ y) (map number r)
rising_numbers r h = rising-map (λ s t. number s ≤ number t) (λ x y. x ≤ y) number r (λ x y i j le. le) h

pub same_sets : (n : ℕ) (q r : List (List ℕ)) → AreSets n q → AreSets n r → map number q ≡ map number r → q ≡ r
same_sets n q r h k e = sym (row_numbers n q h) ∙ ap (map (set_of n)) e ∙ row_numbers n r k

pub same_row : (n d : ℕ) (q r : List (List ℕ)) → IsRow d n q → IsRow d n r → Rearranged q r → q ≡ r
same_row n d q r h k p = same_sets n q r h.sets k.sets (same_rising (map number q) (map number r) (Rearranged-map number p) (rising_numbers q h.ascends) (rising_numbers r k.ascends))

-- a row that dominates one of no smaller total is that one
pub not_larger : (n d : ℕ) (q r : List (List ℕ)) → IsRow d n q → IsRow d n r → Dominates q r → total q ≤ total r → q ≡ r
not_larger n d q r h k dom le =
    let e : r ≡ dom.0 = (under_total n r dom.0 k.sets (AreSets-Rearranged n dom.1 h.sets) dom.2).1 (let t : total q ≡ total dom.0 = total-Rearranged dom.1 in omega arith) in
    same_row n d q r h k (subst (λ t. Rearranged q t) (sym e) dom.1)

pub total-dominates : (n d : ℕ) (q r : List (List ℕ)) → IsRow d n q → IsRow d n r → Dominates q r → total r ≤ total q
total-dominates n d q r h k dom =
    let le = (under_total n r dom.0 k.sets (AreSets-Rearranged n dom.1 h.sets) dom.2).0 in
    let t : total q ≡ total dom.0 = total-Rearranged dom.1 in
    omega (arith, le)

-- ---- all rows
pub number_filled : (s : List ℕ) → 0 < length s → 0 < number s
number_filled [] h = absurd (omega arith)
number_filled (x ∷ s) h = let p : 0 < 2 ^ x = pow_pos x in omega arith

steps_from : (s : List ℕ) (r : List (List ℕ)) → IsRising (λ s t. number s ≤ number t) (s ∷ r) → Steps (number s) (map number r)
steps_from s [] h = tt
steps_from s (u ∷ r) h = (h.0, steps_from u r h.1)

pub numbers_steps : (n : ℕ) (r : List (List ℕ)) → AreSets n r → IsRising (λ s t. number s ≤ number t) r → Steps 1 (map number r)
numbers_steps n [] h k = tt
numbers_steps n (s ∷ r) h k = (number_filled s h.0.1, steps_from s r k)

pub numbers_below : (n : ℕ) (r : List (List ℕ)) → AreSets n r → AllByRecursion (λ x. x < 1 + (2 ^ n - 1)) (map number r)
numbers_below n [] h = tt
numbers_below n (s ∷ r) h =
    let one : number s < 2 ^ n = (set_of-number n s h.0.0).0 in
    (omega arith, numbers_below n r h.1)

pub in_all_rows : (n d : ℕ) (r : List (List ℕ)) → IsRow d n r → In r (all_rows d n)
in_all_rows n d r h =
    subst (λ t. In t (all_rows d n)) (row_numbers n r h.sets)
    (In-map (map (set_of n)) (map number r) (multisets d 1 (2 ^ n - 1)) (In-multisets d 1 (2 ^ n - 1) (map number r) (record {
      count = length-map' number r ∙ h.count;
      steps = numbers_steps n r h.sets h.ascends;
      below = numbers_below n r h.sets;
    })))

pub below_all : (n : ℕ) (v : List ℕ) → AllByRecursion (λ x. x < 1 + (2 ^ n - 1)) v → AllByRecursion (λ x. x < 2 ^ n) v
below_all n [] h = tt
below_all n (x ∷ v) h = let p : 0 < 2 ^ n = pow_pos n in (omega (arith, h.0), below_all n v h.1)

pub filled_set : (s : List ℕ) → 0 < number s → 0 < length s
filled_set [] h = absurd (omega arith)
filled_set (x ∷ s) h = omega arith

sets_of : (n lo : ℕ) (v : List ℕ) → 1 ≤ lo → Steps lo v → AllByRecursion (λ x. x < 2 ^ n) v → AreSets n (map (set_of n) v)
sets_of n lo [] h k b = tt
sets_of n lo (x ∷ v) h k b =
    ((IsLabelSet-set_of n x, filled_set (set_of n x) (subst (λ m. 0 < m) (sym (number-set_of n x b.0)) (omega (arith, k.0)))), sets_of n x v (omega (arith, k.0)) k.1 b.1)

pub steps_rising : (x : ℕ) (v : List ℕ) → Steps x v → IsRising (λ x y. x ≤ y) (x ∷ v)
steps_rising x [] h = tt
steps_rising x (y ∷ v) h = (h.0, steps_rising y v h.1)

pub all_steps_rising : (lo : ℕ) (v : List ℕ) → Steps lo v → IsRising (λ x y. x ≤ y) v
all_steps_rising lo [] h = tt
all_steps_rising lo (x ∷ v) h = steps_rising x v h.1

row_of : (n d : ℕ) (v : List ℕ) → IsMultiset d 1 (2 ^ n - 1) v → IsRow d n (map (set_of n) v)
row_of n d v m =
    let low = below_all n v m.below in
    record {
      count = length-map' (set_of n) v ∙ m.count;
      sets = sets_of n 1 v (omega arith) m.steps low;
      ascends = rising-map (λ x y. x ≤ y) (λ s t. number s ≤ number t) (set_of n) v
          (λ x y i j le. rw (number-set_of n x (AllByRecursion-In (λ z. z < 2 ^ n) v x low i), number-set_of n y (AllByRecursion-In (λ z. z < 2 ^ n) v y low j)) le)
          (all_steps_rising 1 v m.steps);
    }

pub all_rows_from : (n d : ℕ) (r : List (List ℕ)) → In r (all_rows d n) → IsRow d n r
all_rows_from n d r i =
    let a = In-map_from (map (set_of n)) r (multisets d 1 (2 ^ n - 1)) i in
    subst (IsRow d n) (sym a.2) (row_of n d a.0 (In-multisets_from d 1 (2 ^ n - 1) a.0 a.1))

abbrev pub RowBefore : List (List ℕ) → List (List ℕ) → Type 0
RowBefore q r = row_cmp q r ≡ Less

pub rising-all_rows : (n d : ℕ) → IsRising RowBefore (all_rows d n)
rising-all_rows n d = rising-map IsBefore RowBefore (map (set_of n)) (multisets d 1 (2 ^ n - 1))
    (λ v w i j h.
    let a = In-multisets_from d 1 (2 ^ n - 1) v i in
    let b = In-multisets_from d 1 (2 ^ n - 1) w j in
    rw (numbers_back n v (below_all n v a.below), numbers_back n w (below_all n w b.below)) h)
    (rising-multisets d 1 (2 ^ n - 1))

-- sets in any order are those of a row
pub as_row : (n d : ℕ) (s : List (List ℕ)) → length s ≡ d → AreSets n s → (r : List (List ℕ)) × IsRow d n r × Rearranged s r
as_row n d s e h =
    let r = map (set_of n) (sorted (map number s)) in
    let p : Rearranged s r = subst (λ t. Rearranged t r) (row_numbers n s h) (Rearranged-map (set_of n) (Rearranged-sorted (map number s))) in
    let back : map number r ≡ sorted (map number s) =
    numbers_back n (sorted (map number s)) (below_all n (sorted (map number s)) (perm_below (Rearranged-sorted (map number s)) (numbers_below n s h))) in (
      r,
      record {
        count = sym (length-Rearranged p) ∙ e;
        sets = AreSets-Rearranged n p h;
        ascends = from_numbers r (subst (IsRising (λ x y. x ≤ y)) (sym back) (sorted_rises (map number s)));
      },
      p,
    )
  where
    perm_below : {v w : List ℕ} → Rearranged v w → AllByRecursion (λ x. x < 1 + (2 ^ n - 1)) v → AllByRecursion (λ x. x < 1 + (2 ^ n - 1)) w
    perm_below unmoved h = h
    perm_below (kept p) h = (h.0, perm_below p h.1)
    perm_below swapped h = (h.1.0, (h.0, h.1.1))
    perm_below (chained p q) h = perm_below q (perm_below p h)

    from_numbers : (r : List (List ℕ)) → IsRising (λ x y. x ≤ y) (map number r) → IsRising (λ s t. number s ≤ number t) r
    from_numbers [] h = tt
    from_numbers (s ∷ []) h = tt
    from_numbers (s ∷ t ∷ r) h = (h.0, from_numbers (t ∷ r) h.1)

-- ---- the row of some sets by their numbers
filled_numbers : (sets : List (List ℕ)) → is_full sets ≡ true → AllByRecursion (λ x. 1 ≤ x) (map number sets)
filled_numbers [] h = tt
filled_numbers (s ∷ sets) h =
    let two = and-true (ltb 0 (length s)) (is_full sets) h in
    let some : 0 < length s = (let p : ltb 0 (length s) ≡ true = two.0 in grind (arith, nat_tests)) in
    (number_filled s some, filled_numbers sets two.1)

steps_from_one : (v : List ℕ) → AllByRecursion (λ x. 1 ≤ x) v → IsRising (λ x y. x ≤ y) v → Steps 1 v
steps_from_one [] h r = tt
steps_from_one (x ∷ v) h r = (h.0, rising_steps x v r)

pub IsRow-of_numbers : (n : ℕ) (sets : List (List ℕ)) (numbers items : List ℕ) (row : List (List ℕ)) → is_full sets ≡ true → numbers ≡ map number sets → AllByRecursion (λ x. x < 2 ^ n) numbers
    → items ≡ sorted numbers → row ≡ map (set_of n) items → 2 ≤ length sets → length sets ≤ 6 → (2 ≤ length row) × (length row ≤ 6) × IsRow (length row) n row
IsRow-of_numbers n sets numbers items row full e below i r two six =
    let count : length row ≡ length sets = ap length r ∙ length-map' (set_of n) items ∙ ap length i ∙ length-sorted numbers ∙ ap length e ∙ length-map' number sets in
    let low : AllByRecursion (λ x. 1 ≤ x) (sorted numbers) = AllByRecursion-Rearranged (λ x. 1 ≤ x) (Rearranged-sorted numbers) (subst (AllByRecursion (λ x. 1 ≤ x)) (sym e) (filled_numbers sets full)) in
    let p : 0 < 2 ^ n = pow_pos n in
    let is : IsRow (length (sorted numbers)) n (map (set_of n) (sorted numbers)) = row_of n (length (sorted numbers)) (sorted numbers) (record {
      count = refl;
      steps = steps_from_one (sorted numbers) low (sorted_rises numbers);
      below = AllByRecursion-weaker (λ x. x < 2 ^ n) (λ x. x < 1 + (2 ^ n - 1)) (λ x l. omega arith) (sorted numbers) (AllByRecursion-Rearranged (λ x. x < 2 ^ n) (Rearranged-sorted numbers) below);
    }) in
    let whole : row ≡ map (set_of n) (sorted numbers) = r ∙ ap (map (set_of n)) i in
    let same : length (sorted numbers) ≡ length row = sym (ap length whole ∙ length-map' (set_of n) (sorted numbers)) in
    (omega arith, omega arith, subst (λ w. IsRow (length row) n w) (sym whole) (subst (λ d. IsRow d n (map (set_of n) (sorted numbers))) same is))

pub numbers_cmp : (row other : List (List ℕ)) → slice_cmp (λ s t. nat_cmp (number s) (number t)) row other ≡ row_cmp row other
numbers_cmp [] [] = refl
numbers_cmp [] (t ∷ other) = refl
numbers_cmp (s ∷ row) [] = refl
numbers_cmp (s ∷ row) (t ∷ other) = ap (ordering_then (nat_cmp (number s) (number t))) (numbers_cmp row other)

-- what holds of each set of a row holds of the one at a place
pub all_at : (P : List ℕ → Type 0) (r : List (List ℕ)) (i : ℕ) → AllByRecursion P r → i < length r → P (set_at r i)
all_at P [] i h b = absurd (omega arith)
all_at P (s ∷ r) zero h b = h.0
all_at P (s ∷ r) (suc i) h b = all_at P r i h.1 (omega arith)
