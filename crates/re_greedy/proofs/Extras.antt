-- Multisets with one label more, and the labels that may join.
use Rattle.std.proofs.Common.{◌≡◌, ◌⊎◌, ℕ, zero, suc, ◌≤◌, ◌<◌, List, [], ◌∷◌, ◌++◌, ◌+◌, ◌-◌, Bool, true, false, eqb, length, drop, take, get_or, Option, Some, None, refl, sym, ◌∙◌, ap, subst, arith, inl, inr}
use Rattle.std.specs.Prelude.{Contains}
use Rattle.std.specs.List.{remove}
use Rattle.std.proofs.lemmas.List.{take_all, take_more}
use Rattle.re_greedy.specs.Partials.{AreJoining, IsExtra}
use Rattle.re_labels.proofs.Membership.{AllByRecursion-contains, Contains-cases, Contains-here, Contains-none}
use Rattle.re_labels.proofs.Rearranging.{Contains-Rearranged}
use Rattle.re_labels.proofs.Sets.{IsIn-has, IsIn-with_label_cases, has-IsIn, has-with_label}
use Rattle.re_labels.proofs.Sorting.{Rearranged-sorted, inserted_high, inserted_low, length-sorted, or_lower, sorted_again, take_all as take_whole}
use Rattle.std.specs.Cmp.Lexicographic.{pointwise}
use Rattle.re_labels.proofs.Tests.{and-true, eqb-same, eqb-true, true-and, or-left, or-right}
use Rattle.re_labels.specs.Configs.{IsConfig, inserted, sorted}
use Rattle.re_labels.specs.Lists.{IsRising}
use Rattle.re_labels.specs.Sets.{IsIn, has, with_label}
use Rattle.re_labels.proofs.Lists.{Contains-last, Contains-more, Contains-more_cases}

abbrev pub Rises : List ℕ → Type 0
Rises xs = IsRising (λ x y. x ≤ y) xs

pub rises_rest : (x : ℕ) (xs : List ℕ) → Rises (x ∷ xs) → Rises xs
rises_rest x [] h = tt
rises_rest x (y ∷ xs) h = h.1

-- the label is one of the multiset that it joins
pub joined_in : (x : ℕ) (seen : List ℕ) → Contains (sorted (x ∷ seen)) x
joined_in x seen = Contains-Rearranged x (Rearranged-sorted (x ∷ seen)) (Contains-here x seen)

pub joined_one : (x : ℕ) (seen : List ℕ) → Rises seen → sorted (x ∷ seen) ≡ inserted x seen
joined_one x seen h = ap (inserted x) (sorted_again seen h)

-- ---- one step of the comparison
module _ (label : ℕ) (labels : List ℕ) (first : ℕ) (others : List ℕ) (whole : Rises (label ∷ labels)) (seen : Rises (first ∷ others)) where
  abbrev rest : sorted others ≡ others
  rest = sorted_again others (rises_rest first others seen)

  low : (x : ℕ) → x ≤ first → sorted (x ∷ first ∷ others) ≡ x ∷ first ∷ others
  low x l = joined_one x (first ∷ others) seen ∙ inserted_low x first others l

  high : (x : ℕ) → first < x → sorted (x ∷ first ∷ others) ≡ first ∷ sorted (x ∷ others)
  high x l = joined_one x (first ∷ others) seen ∙ inserted_high x first others l ∙ ap (λ xs. first ∷ xs) (sym (joined_one x others (rises_rest first others seen)))

  -- where the first labels are the same
  pub same_some : label ≡ first → (x : ℕ) → sorted (x ∷ others) ≡ labels → sorted (x ∷ first ∷ others) ≡ label ∷ labels
  same_some same x e = elim (or_lower x first) [
    | inl l ↦ (
        let one : x ≡ first = at_least l in
        low x l ∙ ap (λ y. y ∷ first ∷ others) one ∙ ap (λ y. y ∷ first ∷ others) (sym same) ∙ ap (λ xs. label ∷ xs) (sym (moved one) ∙ e)
        )
    | inr l ↦ high x l ∙ ap (λ xs. first ∷ xs) e ∙ ap (λ y. y ∷ labels) (sym same)
  ]
    where
      below : (xs : List ℕ) → Rises (label ∷ xs) → Contains xs x → label ≤ x
      below [] h at = absurd (Contains-none x at)
      below (y ∷ xs) h at = elim (Contains-cases x y xs at) [
        | inl e ↦ subst (λ z. label ≤ z) (sym e) h.0
        | inr i ↦ below xs (skipped xs y h) i
      ]
        where
          skipped : (xs : List ℕ) (y : ℕ) → Rises (label ∷ y ∷ xs) → Rises (label ∷ xs)
          skipped [] y h = tt
          skipped (z ∷ xs) y h = (let l : label ≤ y = h.0 in let m : y ≤ z = h.1.0 in omega arith, h.1.1)

      at_least : x ≤ first → x ≡ first
      at_least l = let m : label ≤ x = below labels whole (subst (λ xs. Contains xs x) e (joined_in x others)) in omega arith

      moved : x ≡ first → sorted (x ∷ others) ≡ first ∷ others
      moved one = ap (λ y. sorted (y ∷ others)) one ∙ sorted_again (first ∷ others) seen

  pub same_none : label ≡ first → (x : ℕ) → sorted (x ∷ first ∷ others) ≡ label ∷ labels → sorted (x ∷ others) ≡ labels
  same_none same x e = elim (or_lower x first) [
    | inl l ↦ (
        let both : x ∷ first ∷ others ≡ label ∷ labels = sym (low x l) ∙ e in
        let head : x ≡ label = cc in
        let tail : first ∷ others ≡ labels = cc in
        ap (λ y. sorted (y ∷ others)) (head ∙ same) ∙ sorted_again (first ∷ others) seen ∙ tail
        )
    | inr l ↦ (
        let both : first ∷ sorted (x ∷ others) ≡ label ∷ labels = sym (high x l) ∙ e in
        let tail : sorted (x ∷ others) ≡ labels = cc in
        tail
        )
  ]

  -- where they differ
  pub other_some : labels ≡ first ∷ others → sorted (label ∷ first ∷ others) ≡ label ∷ labels
  other_some e = ap (λ xs. sorted (label ∷ xs)) (sym e) ∙ sorted_again (label ∷ labels) whole

  pub other_none : (label ≡ first → ⊥) → (labels ≡ first ∷ others → ⊥) → (x : ℕ) → sorted (x ∷ first ∷ others) ≡ label ∷ labels → ⊥
  other_none apart none x e = elim (or_lower x first) [
    | inl l ↦ (let both : x ∷ first ∷ others ≡ label ∷ labels = sym (low x l) ∙ e in let tail : labels ≡ first ∷ others = cc in none tail)
    | inr l ↦ (let both : first ∷ sorted (x ∷ others) ≡ label ∷ labels = sym (high x l) ∙ e in let head : label ≡ first = cc in apart head)
  ]

-- a multiset with one label more isn't empty
pub joined_some : (x : ℕ) (seen whole : List ℕ) → sorted (x ∷ seen) ≡ whole → length whole < 1 → ⊥
joined_some x seen whole e none = let l : length (sorted (x ∷ seen)) ≡ suc (length seen) = length-sorted (x ∷ seen) in let z : length (sorted (x ∷ seen)) ≡ length whole = ap length e in omega arith

-- what the comparison gives
pub extra_same : (whole seen : List ℕ) (answer : Option ℕ) → 1 ≤ length whole → 1 ≤ length seen → Rises whole → Rises seen → get_or whole 0 0 ≡ get_or seen 0 0
    → IsExtra (drop 1 whole) (drop 1 seen) answer → IsExtra whole seen answer
extra_same [] seen answer some more whole_rises seen_rises same is = absurd (omega arith)
extra_same (y ∷ whole) [] answer some more whole_rises seen_rises same is = absurd (omega arith)
extra_same (y ∷ whole) (z ∷ seen) None some more whole_rises seen_rises same is = λ x e. is x (same_none y whole z seen whole_rises seen_rises same x e)
extra_same (y ∷ whole) (z ∷ seen) (Some x) some more whole_rises seen_rises same is = same_some y whole z seen whole_rises seen_rises same x is

pub extra_other : (whole seen : List ℕ) → 1 ≤ length whole → 1 ≤ length seen → Rises whole → drop 1 whole ≡ seen → sorted (get_or whole 0 0 ∷ seen) ≡ whole
extra_other [] seen some more whole_rises same = absurd (omega arith)
extra_other (y ∷ whole) seen some more whole_rises same = ap (λ xs. sorted (y ∷ xs)) (sym same) ∙ sorted_again (y ∷ whole) whole_rises

pub extra_none : (whole seen : List ℕ) → 1 ≤ length whole → 1 ≤ length seen → Rises whole → Rises seen → (get_or whole 0 0 ≡ get_or seen 0 0 → ⊥) → (drop 1 whole ≡ seen → ⊥)
    → (x : ℕ) → sorted (x ∷ seen) ≡ whole → ⊥
extra_none [] seen some more whole_rises seen_rises apart other x e = absurd (omega arith)
extra_none (y ∷ whole) [] some more whole_rises seen_rises apart other x e = absurd (omega arith)
extra_none (y ∷ whole) (z ∷ seen) some more whole_rises seen_rises apart other x e = other_none y whole z seen whole_rises seen_rises apart other x e

rest_is : (xs : List ℕ) → 1 ≤ length xs → take (length xs - 1) (drop 1 xs) ≡ drop 1 xs
rest_is [] some = absurd (omega arith)
rest_is (x ∷ xs) some = take_whole xs (suc (length xs) - 1) (omega arith)

pub same_labels : (xs ys : List ℕ) → pointwise eqb xs ys ≡ true → xs ≡ ys
same_labels [] [] h = refl
same_labels [] (y ∷ ys) h = absurd (cc)
same_labels (x ∷ xs) [] h = absurd (cc)
same_labels (x ∷ xs) (y ∷ ys) h = (let both = and-true (eqb x y) (pointwise eqb xs ys) h in ap (λ z. z ∷ xs) (eqb-true x y both.0) ∙ ap (λ zs. y ∷ zs) (same_labels xs ys both.1))

pub labels_self : (xs : List ℕ) → pointwise eqb xs xs ≡ true
labels_self [] = refl
labels_self (x ∷ xs) = true-and (eqb x x) (pointwise eqb xs xs) (eqb-same x) (labels_self xs)

pub extra_step : (whole seen : List ℕ) (answer : Option ℕ) → 1 ≤ length whole → 1 ≤ length seen → Rises whole → Rises seen → get_or whole 0 0 ≡ get_or seen 0 0
    → IsExtra (take (length whole - 1) (drop 1 whole)) (take (length seen - 1) (drop 1 seen)) answer → IsExtra whole seen answer
extra_step whole seen answer some more whole_rises seen_rises same is =
    extra_same whole seen answer some more whole_rises seen_rises same
    (subst (λ s. IsExtra (drop 1 whole) s answer) (rest_is seen more) (subst (λ w. IsExtra w (take (length seen - 1) (drop 1 seen)) answer) (rest_is whole some) is))

pub extra_there : (whole seen : List ℕ) (b : Bool) → 1 ≤ length whole → 1 ≤ length seen → Rises whole → b ≡ pointwise eqb (take (length whole - 1) (drop 1 whole)) seen → b ≡ true
    → sorted (get_or whole 0 0 ∷ seen) ≡ whole
extra_there whole seen b some more rises is yes_b = extra_other whole seen some more rises (sym (rest_is whole some) ∙ same_labels (take (length whole - 1) (drop 1 whole)) seen (sym is ∙ yes_b))

pub extra_nowhere : (whole seen : List ℕ) (b : Bool) → 1 ≤ length whole → 1 ≤ length seen → Rises whole → Rises seen → (get_or whole 0 0 ≡ get_or seen 0 0 → ⊥)
    → b ≡ pointwise eqb (take (length whole - 1) (drop 1 whole)) seen → b ≡ false → (x : ℕ) → sorted (x ∷ seen) ≡ whole → ⊥
extra_nowhere whole seen b some more whole_rises seen_rises apart is no_b = extra_none whole seen some more whole_rises seen_rises apart (λ e. different (rest_is whole some ∙ e))
  where
    different : take (length whole - 1) (drop 1 whole) ≡ seen → ⊥
    different e =
        let self : pointwise eqb (take (length whole - 1) (drop 1 whole)) seen ≡ true = subst (λ s. pointwise eqb (take (length whole - 1) (drop 1 whole)) s ≡ true) e (labels_self (take (length whole - 1) (drop 1 whole))) in
        absurd (cc)

-- the label that joins is as low as the labels of the multiset
pub joined_below : (x n m : ℕ) (seen whole member : List ℕ) → sorted (x ∷ seen) ≡ whole → whole ≡ member → IsConfig n m member → x < m
joined_below x n m seen whole member e same config =
    AllByRecursion-contains (λ x. x < m) member x config.below (subst (λ w. Contains w x) (e ∙ same) (joined_in x seen))

-- ---- a label is taken away again
pub taken_back : (x : ℕ) (seen : List ℕ) → (i : ℕ) × (i < length (inserted x seen)) × (remove (inserted x seen) i ≡ seen)
taken_back x [] = (0, omega arith, refl)
taken_back x (y ∷ seen) = elim (or_lower x y) [
  | inl l ↦ subst (λ xs. (i : ℕ) × (i < length xs) × (remove xs i ≡ y ∷ seen)) (sym (inserted_low x y seen l)) (0, omega arith, refl)
  | inr l ↦ (
      let (i, inside, e) = taken_back x seen in
      subst (λ xs. (i : ℕ) × (i < length xs) × (remove xs i ≡ y ∷ seen)) (sym (inserted_high x y seen l)) (suc i, omega (arith, inside), ap (λ xs. y ∷ xs) e)
      )
]

-- ---- the labels that may join
pub IsIn-with : (set : List ℕ) (y x : ℕ) → (IsIn x set ⊎ (x ≡ y)) → IsIn x (with_label set y)
IsIn-with set y x (inl i) = has-IsIn (with_label set y) x (has-with_label set y x ∙ or-right (eqb y x) (has set x) (IsIn-has set x i))
IsIn-with set y x (inr e) =
    let same : eqb y x ≡ true = subst (λ z. eqb y z ≡ true) (sym e) (eqb-same y) in
    has-IsIn (with_label set y) x (has-with_label set y x ∙ or-left (eqb y x) (has set x) same)

-- numbers by which multisets are told apart
abbrev total : List ℕ → ℕ
total [] = 0
total (x ∷ xs) = x + total xs

total-inserted : (x : ℕ) (xs : List ℕ) → total (inserted x xs) ≡ x + total xs
total-inserted x [] = refl
total-inserted x (y ∷ xs) = elim (or_lower x y) [
  | inl l ↦ ap total (inserted_low x y xs l)
  | inr l ↦ (
      let e : total (inserted x (y ∷ xs)) ≡ y + total (inserted x xs) = ap total (inserted_high x y xs l) in
      let rest : total (inserted x xs) ≡ x + total xs = total-inserted x xs in
      omega arith
      )
]

-- only one label makes the one multiset the other one
one_label : (x y : ℕ) (seen : List ℕ) → sorted (y ∷ seen) ≡ sorted (x ∷ seen) → y ≡ x
one_label x y seen e =
    let same : total (inserted y (sorted seen)) ≡ total (inserted x (sorted seen)) = ap total e in
    let one : total (inserted y (sorted seen)) ≡ y + total (sorted seen) = total-inserted y (sorted seen) in
    let other : total (inserted x (sorted seen)) ≡ x + total (sorted seen) = total-inserted x (sorted seen) in
    omega arith

pub joining_more : (members : List (List ℕ)) (member seen set : List ℕ) (x : ℕ) → AreJoining members seen set → sorted (x ∷ seen) ≡ member → AreJoining (members ++ member ∷ []) seen (with_label set x)
joining_more members member seen set x are e y = (
  λ i. elim (IsIn-with_label_cases set x y i) [
    | inl same ↦ subst (λ z. Contains (members ++ member ∷ []) (sorted (z ∷ seen))) same (subst (Contains (members ++ member ∷ [])) (sym e) (Contains-last members member))
    | inr j ↦ Contains-more members member (sorted (y ∷ seen)) ((are y).0 j)
  ],
  λ at. elim (Contains-more_cases members member (sorted (y ∷ seen)) at) [
    | inl there ↦ IsIn-with set x y (inl ((are y).1 there))
    | inr same ↦ IsIn-with set x y (inr (one_label x y seen (same ∙ sym e)))
  ],
)

pub joining_same : (members : List (List ℕ)) (member seen set : List ℕ) → AreJoining members seen set → ((x : ℕ) → sorted (x ∷ seen) ≡ member → ⊥) → AreJoining (members ++ member ∷ []) seen set
joining_same members member seen set are none y = (
  λ i. Contains-more members member (sorted (y ∷ seen)) ((are y).0 i),
  λ at. elim (Contains-more_cases members member (sorted (y ∷ seen)) at) [
    | inl there ↦ (are y).1 there
    | inr same ↦ absurd (none y same)
  ],
)

-- ---- as a loop goes over the list
pub take_item : (xs : List (List ℕ)) (i : ℕ) (x : List ℕ) → i < length xs → x ≡ get_or xs i x → take (i + 1) xs ≡ take i xs ++ x ∷ []
take_item xs i x l e = take_more xs i x l ∙ ap (λ y. take i xs ++ y ∷ []) (sym e)

pub joining_step : (members : List (List ℕ)) (i : ℕ) (item seen set new : List ℕ) (x : ℕ) (whole other : List ℕ) → i < length members → item ≡ get_or members i item
    → AreJoining (take i members) seen set → whole ≡ item → other ≡ seen → sorted (x ∷ other) ≡ whole → new ≡ with_label set x → AreJoining (take (i + 1) members) seen new
joining_step members i item seen set new x whole other inside at are one two e is =
    let joined : sorted (x ∷ seen) ≡ item = ap (λ s. sorted (x ∷ s)) (sym two) ∙ e ∙ one in
    subst (λ m. AreJoining m seen new) (sym (take_item members i item inside at))
    (subst (AreJoining (take i members ++ item ∷ []) seen) (sym is) (joining_more (take i members) item seen set x are joined))

pub joining_stay : (members : List (List ℕ)) (i : ℕ) (item seen set new whole other : List ℕ) → i < length members → item ≡ get_or members i item
    → AreJoining (take i members) seen set → whole ≡ item → other ≡ seen → ((x : ℕ) → sorted (x ∷ other) ≡ whole → ⊥) → new ≡ set → AreJoining (take (i + 1) members) seen new
joining_stay members i item seen set new whole other inside at are one two none is =
    subst (λ m. AreJoining m seen new) (sym (take_item members i item inside at))
    (subst (AreJoining (take i members ++ item ∷ []) seen) (sym is)
    (joining_same (take i members) item seen set are (λ x e. none x (ap (λ s. sorted (x ∷ s)) two ∙ e ∙ sym one))))

pub joining_all : (members : List (List ℕ)) (i : ℕ) (seen set : List ℕ) → length members ≤ i → AreJoining (take i members) seen set → AreJoining members seen set
joining_all members i seen set over are = subst (λ m. AreJoining m seen set) (take_all i members over) are

pub get_same : (xs : List (List ℕ)) (i : ℕ) (x : List ℕ) → i < length xs → x ≡ get_or xs i x → get_or xs i [] ≡ x
get_same xs i x l e = default xs i [] x l ∙ sym e
  where
    default : (xs : List (List ℕ)) (i : ℕ) (d e : List ℕ) → i < length xs → get_or xs i d ≡ get_or xs i e
    default [] i d e l = absurd (omega arith)
    default (x ∷ xs) zero d e l = refl
    default (x ∷ xs) (suc i) d e l = default xs i d e (omega arith)

-- ---- where two multisets are compared, and where a list is split
pub labels_alike : (xs ys item other : List ℕ) (b : Bool) → b ≡ pointwise eqb xs ys → b ≡ true → xs ≡ item → ys ≡ other → item ≡ other
labels_alike xs ys item other b is held one two = sym one ∙ same_labels xs ys (sym is ∙ held) ∙ two

pub labels_apart : (xs ys item other : List ℕ) (b : Bool) → b ≡ pointwise eqb xs ys → b ≡ false → xs ≡ item → ys ≡ other → item ≡ other → ⊥
labels_apart xs ys item other b is none one two e =
    let same : xs ≡ ys = one ∙ e ∙ sym two in
    let self : pointwise eqb xs ys ≡ true = subst (λ zs. pointwise eqb xs zs ≡ true) same (labels_self xs) in
    absurd (cc)

pub split_count : (lists : List (List ℕ)) → 1 ≤ length lists → length (take (length lists - 1) (drop 1 lists)) + 1 ≡ length lists
split_count [] some = absurd (omega arith)
split_count (x ∷ lists) some = (let e : length (take (suc (length lists) - 1) lists) ≡ length lists = ap length (take_whole lists (suc (length lists) - 1) (omega arith)) in omega arith)
