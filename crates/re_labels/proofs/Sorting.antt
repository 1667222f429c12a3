-- The ascending list of some numbers, and what a sort of them gives.
use Rattle.std.proofs.Common.{◌≡◌, ℕ, zero, suc, ◌<◌, ◌≤◌, ◌+◌, ◌-◌, cond, eqb, List, [], ◌∷◌, ◌++◌, length, map, take, drop, get_or, refl, sym, ap, ◌∙◌, subst, ◌⊎◌, inl, inr, arith}
use Rattle.std.specs.List.{AllByRecursion, sum_by, refill}
use Rattle.std.specs.List.Sorted.{IsPermutation, IsSorted}
use Rattle.std.specs.Ordering.{nat_cmp}
use Rattle.std.proofs.lemmas.List.Sorted.{sum_by-IsPermutation, IsNonDecreasingBy-from_sort}
use Rattle.std.proofs.lemmas.List.Recursion.{is_sum_by}
use Rattle.std.proofs.lemmas.Bool.{cases_lt}
use Rattle.std.proofs.lemmas.Bool.Decides.{leb_tells, eqb_tells}
use Rattle.re_labels.proofs.Rearranging.{Rearranged-map, Rearranged-refl, length-Rearranged}
use Rattle.re_labels.specs.Configs.{IsConfig, inserted, sorted}
use Rattle.re_labels.specs.Rearranging.{Rearranged, chained, kept, swapped, unmoved}
use Rattle.re_labels.specs.Lists.{IsRising, count_from}
use Rattle.re_labels.specs.declared.TheConstants.{MAX_LABELS}

pub inserted_low : (x y : ℕ) (xs : List ℕ) → x ≤ y → inserted x (y ∷ xs) ≡ x ∷ y ∷ xs
inserted_low x y xs h = elim (leb_tells x y) [ inl t ↦ rw t.0 | inr t ↦ absurd (omega (arith, t.1)) ]

pub inserted_high : (x y : ℕ) (xs : List ℕ) → y < x → inserted x (y ∷ xs) ≡ y ∷ inserted x xs
inserted_high x y xs h = elim (leb_tells x y) [ inl t ↦ absurd (omega (arith, t.1)) | inr t ↦ rw t.0 ]

pub or_lower : (x y : ℕ) → (x ≤ y) ⊎ (y < x)
or_lower x y = elim (leb_tells x y) [ inl t ↦ inl t.1 | inr t ↦ inr t.1 ]

same_number : (x y : ℕ) → x ≤ y → y ≤ x → x ≡ y
same_number x y h k = omega arith

both_front : (x y : ℕ) (l : List ℕ) → inserted x l ≡ x ∷ l → inserted y l ≡ y ∷ l → inserted x (y ∷ l) ≡ inserted y (x ∷ l)
both_front x y l hx hy = elim (or_lower x y) [
  | inl h ↦ elim (or_lower y x) [
    | inl k ↦ let e : x ≡ y = same_number x y h k in subst (λ z. inserted x (z ∷ l) ≡ inserted z (x ∷ l)) e refl
    | inr k ↦ inserted_low x y l h ∙ ap (λ m. x ∷ m) (sym hy) ∙ sym (inserted_high y x l k)
  ]
  | inr h ↦ inserted_high x y l h ∙ ap (λ m. y ∷ m) hx ∙ sym (inserted_low y x l (let k : y ≤ x = omega arith in k))
]

inserted_twice : (x y : ℕ) (xs : List ℕ) → inserted x (inserted y xs) ≡ inserted y (inserted x xs)
inserted_twice x y [] = both_front x y [] refl refl
inserted_twice x y (z ∷ xs) = elim (or_lower y z) [
  | inl yz ↦ elim (or_lower x z) [
    | inl xz ↦ ap (inserted x) (inserted_low y z xs yz) ∙ both_front x y (z ∷ xs) (inserted_low x z xs xz) (inserted_low y z xs yz) ∙ sym (ap (inserted y) (inserted_low x z xs xz))
    | inr xz ↦ let yx : y < x = omega arith in let yx' : y ≤ x = omega arith in
        ap (inserted x) (inserted_low y z xs yz) ∙ inserted_high x y (z ∷ xs) yx ∙ ap (λ l. y ∷ l) (inserted_high x z xs xz)
        ∙ sym (ap (inserted y) (inserted_high x z xs xz) ∙ inserted_low y z (inserted x xs) yz)
  ]
  | inr yz ↦ elim (or_lower x z) [
    | inl xz ↦ let xy : x < y = omega arith in
        ap (inserted x) (inserted_high y z xs yz) ∙ inserted_low x z (inserted y xs) xz
        ∙ sym (ap (inserted y) (inserted_low x z xs xz) ∙ inserted_high y x (z ∷ xs) xy ∙ ap (λ l. x ∷ l) (inserted_high y z xs yz))
    | inr xz ↦ ap (inserted x) (inserted_high y z xs yz) ∙ inserted_high x z (inserted y xs) xz ∙ ap (λ l. z ∷ l) (inserted_twice x y xs)
        ∙ sym (ap (inserted y) (inserted_high x z xs xz) ∙ inserted_high y z (inserted x xs) yz)
  ]
]

pub sorted-Rearranged : {xs ys : List ℕ} → Rearranged xs ys → sorted xs ≡ sorted ys
sorted-Rearranged unmoved = refl
sorted-Rearranged (kept {x = x} p) = ap (inserted x) (sorted-Rearranged p)
sorted-Rearranged (swapped {x = x} {y = y} {xs = xs}) = inserted_twice x y (sorted xs)
sorted-Rearranged (chained p q) = sorted-Rearranged p ∙ sorted-Rearranged q

pub sorted_again : (xs : List ℕ) → IsRising (λ x y. x ≤ y) xs → sorted xs ≡ xs
sorted_again [] h = refl
sorted_again (x ∷ []) h = refl
sorted_again (x ∷ y ∷ xs) h = ap (inserted x) (sorted_again (y ∷ xs) h.1) ∙ inserted_low x y xs h.0

-- what is sorted in two ways is one list
pub same_rising : (xs ys : List ℕ) → Rearranged xs ys → IsRising (λ x y. x ≤ y) xs → IsRising (λ x y. x ≤ y) ys → xs ≡ ys
same_rising xs ys p h k = sym (sorted_again xs h) ∙ sorted-Rearranged p ∙ sorted_again ys k

inserted_is : (x : ℕ) (xs : List ℕ) → Rearranged (x ∷ xs) (inserted x xs)
inserted_is x [] = kept unmoved
inserted_is x (y ∷ xs) = elim (or_lower x y) [
  | inl h ↦ subst (λ l. Rearranged (x ∷ y ∷ xs) l) (sym (inserted_low x y xs h)) (Rearranged-refl (x ∷ y ∷ xs))
  | inr h ↦ subst (λ l. Rearranged (x ∷ y ∷ xs) l) (sym (inserted_high x y xs h)) (chained swapped (kept (inserted_is x xs)))
]

pub Rearranged-sorted : (xs : List ℕ) → Rearranged xs (sorted xs)
Rearranged-sorted [] = unmoved
Rearranged-sorted (x ∷ xs) = chained (kept (Rearranged-sorted xs)) (inserted_is x (sorted xs))

inserted_rises : (x : ℕ) (xs : List ℕ) → IsRising (λ x y. x ≤ y) xs → IsRising (λ x y. x ≤ y) (inserted x xs)
inserted_rises x [] h = tt
inserted_rises x (y ∷ xs) h = elim (or_lower x y) [
  | inl l ↦ subst (IsRising (λ x y. x ≤ y)) (sym (inserted_low x y xs l)) (l, h)
  | inr l ↦ subst (IsRising (λ x y. x ≤ y)) (sym (inserted_high x y xs l)) (behind y xs h (omega arith))
]
  where
    behind : (y : ℕ) (xs : List ℕ) → IsRising (λ x y. x ≤ y) (y ∷ xs) → y ≤ x → IsRising (λ x y. x ≤ y) (y ∷ inserted x xs)
    behind y [] h l = (l, tt)
    behind y (z ∷ xs) h l = elim (or_lower x z) [
      | inl m ↦ subst (λ r. IsRising (λ x y. x ≤ y) (y ∷ r)) (sym (inserted_low x z xs m)) (l, (m, h.1))
      | inr m ↦ subst (λ r. IsRising (λ x y. x ≤ y) (y ∷ r)) (sym (inserted_high x z xs m)) (h.0, behind z xs h.1 (omega arith))
    ]

pub sorted_rises : (xs : List ℕ) → IsRising (λ x y. x ≤ y) (sorted xs)
sorted_rises [] = tt
sorted_rises (x ∷ xs) = inserted_rises x (sorted xs) (sorted_rises xs)

pub length-sorted : (xs : List ℕ) → length (sorted xs) ≡ length xs
length-sorted xs = sym (length-Rearranged (Rearranged-sorted xs))

pub AllByRecursion-Rearranged : {X : Type 0} (P : X → Type 0) {xs ys : List X} → Rearranged xs ys → AllByRecursion P xs → AllByRecursion P ys
AllByRecursion-Rearranged P unmoved h = h
AllByRecursion-Rearranged P (kept p) h = (h.0, AllByRecursion-Rearranged P p h.1)
AllByRecursion-Rearranged P swapped h = (h.1.0, (h.0, h.1.1))
AllByRecursion-Rearranged P (chained p q) h = AllByRecursion-Rearranged P q (AllByRecursion-Rearranged P p h)

-- ---- what a sort gives
abbrev times : ℕ → List ℕ → ℕ
times x [] = 0
times x (y ∷ ys) = cond (eqb y x) 1 0 + times x ys

times-sum : (x : ℕ) (xs : List ℕ) → times x xs ≡ sum_by (λ y. cond (eqb y x) 1 0) xs
times-sum x xs = is_sum_by (times x) (λ y. cond (eqb y x) 1 0) refl (λ _ _. refl) xs

pub times-Perm : (x : ℕ) {xs ys : List ℕ} → Rearranged xs ys → times x xs ≡ times x ys
times-Perm x unmoved = refl
times-Perm x (kept {x = y} p) = ap (λ m. cond (eqb y x) 1 0 + m) (times-Perm x p)
times-Perm x (swapped {x = y} {y = z} {xs = xs}) = omega arith
times-Perm x (chained p q) = times-Perm x p ∙ times-Perm x q

head_times : (x : ℕ) (xs : List ℕ) → 0 < times x (x ∷ xs)
head_times x xs = elim (eqb_tells x x) [
  | inl t ↦ subst (λ b. 0 < cond b 1 0 + times x xs) (sym t.0) (omega arith)
  | inr t ↦ absurd (t.1 refl)
]

all_below : (x y : ℕ) (ys : List ℕ) → x < y → IsRising (λ x y. x ≤ y) (y ∷ ys) → times x ys ≡ 0
all_below x y [] h r = refl
all_below x y (z ∷ ys) h r = elim (eqb_tells z x) [
  | inl t ↦ absurd (let e : z ≡ x = t.1 in omega (arith, r.0))
  | inr t ↦ ap (λ b. cond b 1 0 + times x ys) t.0 ∙ ap (λ m. 0 + m) (all_below x z ys (omega (arith, r.0)) r.1)
]

none_below : (x y : ℕ) (ys : List ℕ) → x < y → IsRising (λ x y. x ≤ y) (y ∷ ys) → times x (y ∷ ys) ≡ 0
none_below x y ys h r = elim (eqb_tells y x) [
  | inl t ↦ absurd (let e : y ≡ x = t.1 in omega arith)
  | inr t ↦ ap (λ b. cond b 1 0 + times x ys) t.0 ∙ ap (λ m. 0 + m) (all_below x y ys h r)
]

pub tail_rises : (x : ℕ) (xs : List ℕ) → IsRising (λ x y. x ≤ y) (x ∷ xs) → IsRising (λ x y. x ≤ y) xs
tail_rises x [] h = tt
tail_rises x (y ∷ xs) h = h.1

-- the numbers from the first one on
pub count_from_rises : (i n : ℕ) → IsRising (λ x y. x ≤ y) (count_from i n)
count_from_rises i zero = tt
count_from_rises i (suc zero) = tt
count_from_rises i (suc (suc n)) = (omega arith, count_from_rises (suc i) (suc n))

-- two lists in order, with each number as often, are one
same_times : (xs ys : List ℕ) → IsRising (λ x y. x ≤ y) xs → IsRising (λ x y. x ≤ y) ys → ((x : ℕ) → times x xs ≡ times x ys) → xs ≡ ys
same_times [] [] h k e = refl
same_times [] (y ∷ ys) h k e = let p = head_times y ys in absurd (omega (arith, e y, p))
same_times (x ∷ xs) [] h k e = let p = head_times x xs in absurd (omega (arith, e x, p))
same_times (x ∷ xs) (y ∷ ys) h k e = elim (cases_lt x y) [
  | inl l ↦ let p = head_times x xs in let z = none_below x y ys l k in absurd (omega (arith, e x, p, z))
  | inr ge ↦ elim (cases_lt y x) [
    | inl l ↦ let p = head_times y ys in let z = none_below y x xs l h in absurd (omega (arith, e y, p, z))
    | inr le ↦
        let xy : x ≡ y = omega arith in
        let more : xs ≡ ys = same_times xs ys (tail_rises x xs h) (tail_rises y ys k) (λ w.
        let q : cond (eqb x w) 1 0 + times w xs ≡ cond (eqb x w) 1 0 + times w ys = e w ∙ ap (λ v. cond (eqb v w) 1 0 + times w ys) (sym xy) in omega arith) in
        (λ i. xy i ∷ more i)
  ]
]

rising_at : (xs : List ℕ) → ((i j : ℕ) (d : ℕ) → i ≤ j → j < length xs → get_or xs i d ≤ get_or xs j d) → IsRising (λ x y. x ≤ y) xs
rising_at [] h = tt
rising_at (x ∷ []) h = tt
rising_at (x ∷ y ∷ xs) h = (h 0 1 0 (omega arith) (omega arith), rising_at (y ∷ xs) (λ i j d le lt. h (suc i) (suc j) d (omega arith) (omega arith)))

-- a list ascends where each number but the first is at least the one before it
pub rising_adjacent : (xs : List ℕ) → ((j : ℕ) → 0 < j → j < length xs → get_or xs (j - 1) 0 ≤ get_or xs j 0) → IsRising (λ x y. x ≤ y) xs
rising_adjacent [] h = tt
rising_adjacent (x ∷ []) h = tt
rising_adjacent (x ∷ y ∷ xs) h = (h 1 (omega arith) (omega arith), rising_adjacent (y ∷ xs) (tail h))
  where
    tail : ((j : ℕ) → 0 < j → j < length (x ∷ y ∷ xs) → get_or (x ∷ y ∷ xs) (j - 1) 0 ≤ get_or (x ∷ y ∷ xs) j 0) → (j : ℕ) → 0 < j → j < length (y ∷ xs) → get_or (y ∷ xs) (j - 1) 0 ≤ get_or (y ∷ xs) j 0
    tail h zero some below = absurd (omega arith)
    tail h (suc j) some below = let e : suc (suc j) - 1 ≡ suc j = omega arith in let f : suc j - 1 ≡ j = omega arith in subst (λ n. get_or (y ∷ xs) n 0 ≤ get_or (y ∷ xs) (suc j) 0) (sym f) (subst (λ n. get_or (x ∷ y ∷ xs) n 0 ≤ get_or (x ∷ y ∷ xs) (suc (suc j)) 0) e (h (suc (suc j)) (omega arith) (omega arith)))

-- a list that ascends does so with one more number that is at least its last one
pub rising_with_last : (xs : List ℕ) (x n : ℕ) → suc n ≡ length xs → IsRising (λ x y. x ≤ y) xs → get_or xs n 0 ≤ x → IsRising (λ x y. x ≤ y) (xs ++ x ∷ [])
rising_with_last [] x n l h b = absurd (omega arith)
rising_with_last (y ∷ []) x zero l h b = (b, tt)
rising_with_last (y ∷ []) x (suc n) l h b = absurd (omega arith)
rising_with_last (y ∷ z ∷ xs) x zero l h b = absurd (omega arith)
rising_with_last (y ∷ z ∷ xs) x (suc n) l h b = (h.0, rising_with_last (z ∷ xs) x n (omega arith) h.1 b)

-- what a sort of unsigned numbers leaves
pub sorted-from_sort : (xs ys : List ℕ) → IsPermutation xs ys → IsSorted nat_cmp ys → ys ≡ sorted xs
sorted-from_sort xs ys p s =
    same_times ys (sorted xs) (rising_at ys (IsNonDecreasingBy-from_sort (λ x. x) ys s)) (sorted_rises xs)
    (λ x. times-sum x ys ∙ sum_by-IsPermutation (λ y. cond (eqb y x) 1 0) xs ys p ∙ sym (times-sum x xs) ∙ times-Perm x (Rearranged-sorted xs))

pub take_front : {X : Type 0} (ws zs : List X) → take (length ws) (ws ++ zs) ≡ ws
take_front [] zs = refl
take_front (w ∷ ws) zs = ap (λ l. w ∷ l) (take_front ws zs)

pub take_all : {X : Type 0} (xs : List X) (i : ℕ) → length xs ≤ i → take i xs ≡ xs
take_all [] zero h = refl
take_all [] (suc i) h = refl
take_all (x ∷ xs) zero h = absurd (omega arith)
take_all (x ∷ xs) (suc i) h = ap (λ l. x ∷ l) (take_all xs i (omega arith))

-- what is held after a sort of all that was pushed
pub sorted_held : (labels held given new : List ℕ) (i : ℕ) → held ≡ take i labels → length labels ≤ i → given ≡ held
    → IsPermutation given new → length new ≡ length given → IsSorted nat_cmp new → refill (length held) held new ≡ sorted labels
sorted_held labels held given new i h all g p len s =
    let held_is : held ≡ labels = h ∙ take_all labels i all in
    let n : length held ≡ length new = sym (len ∙ ap length g) in
    ap (λ k. take k (new ++ drop (length new) held)) n ∙ take_front new (drop (length new) held)
    ∙ sorted-from_sort given new p s ∙ ap sorted (g ∙ held_is)

-- what is held after a sort
pub sorted_whole : (held given new : List ℕ) → given ≡ held → IsPermutation given new → length new ≡ length given → IsSorted nat_cmp new → refill (length held) held new ≡ sorted held
sorted_whole held given new g p len s = sorted_held held held given new (length held) (sym (take_all held (length held) (omega arith))) (omega arith) g p len s

-- the sorted labels as a configuration
pub IsConfig-sorted : (degree n : ℕ) (labels : List ℕ) → length labels ≡ degree → AllByRecursion (λ x. x < n) labels → IsConfig degree n (sorted labels)
IsConfig-sorted degree n labels e h = record {
  count = length-sorted labels ∙ e;
  below = AllByRecursion-Rearranged (λ x. x < n) (Rearranged-sorted labels) h;
  ascends = sorted_rises labels;
}

pub IsConfig-of_sorted : (labels : List ℕ) → 2 ≤ length labels → length labels ≤ 6 → AllByRecursion (λ x. x < MAX_LABELS) labels
    → (2 ≤ length (sorted labels)) × (length (sorted labels) ≤ 6) × IsConfig (length (sorted labels)) MAX_LABELS (sorted labels)
IsConfig-of_sorted labels two six h =
    let e : length (sorted labels) ≡ length labels = length-sorted labels in
    (omega arith, omega arith, IsConfig-sorted (length (sorted labels)) MAX_LABELS labels (sym e) h)

-- to number anew and sort, the labels needn't be sorted before
pub sorted_map : (g : ℕ → ℕ) (c : List ℕ) → sorted (map g (sorted c)) ≡ sorted (map g c)
sorted_map g c = sym (sorted-Rearranged (Rearranged-map g (Rearranged-sorted c)))
