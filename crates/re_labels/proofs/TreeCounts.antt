-- Leaves and configurations are counted alike, in ascending order.
use Rattle.re_labels.proofs.Searching.{tail_rises}
use Rattle.std.proofs.Common.{◌≡◌, ℕ, zero, suc, ◌<◌, ◌+◌, Bool, true, false, cond, ltb, ◌&&◌, List, [], ◌∷◌, length, get_or, refl, sym, ap, ◌∙◌, subst, arith, inl, inr, ◌⊎◌, zero-add}
use Rattle.std.proofs.lemmas.Bool.{lt-ltb, ltb-true, false≢true}
use Rattle.std.proofs.lemmas.List.Sums.{sum_by-cons}
use Rattle.std.specs.Prelude.{count_by}
use Rattle.re_labels.proofs.Before.{IsBefore-apart, IsBefore-cases, IsBefore-head, IsBefore-tail, IsBefore-trans, three_ways}
use Rattle.re_labels.proofs.Membership.{Contains-In, In}
use Rattle.re_labels.proofs.Rising.{rising-below}
use Rattle.re_labels.proofs.Tests.{and-true, or-left, or-right, or-true, true-and}
use Rattle.re_labels.specs.Lists.{IsBefore, IsRising}
use Rattle.re_labels.proofs.TreeGrowth.{begins-own, begins-same, length-prefix, none_counted}
use Rattle.re_labels.proofs.TreeLeaves.{prefix_whole}
use Rattle.re_labels.specs.PrefixTrees.{begins, prefix}
use Rattle.re_labels.specs.TreeWalks.{precedes}

-- ---- the first label that differs
pub prefix-labels : (config other : List ℕ) (d i : ℕ) → i < d → prefix config d ≡ prefix other d → get_or config i 0 ≡ get_or other i 0
prefix-labels config other zero i l same = absurd (omega arith)
prefix-labels config other (suc d) i l same = elim (three_ways i d) [
  | inl less ↦ prefix-labels config other d i less cc
  | inr (inl equal) ↦ let here : get_or config d 0 ≡ get_or other d 0 = cc in ap (λ j. get_or config j 0) equal ∙ here ∙ ap (λ j. get_or other j 0) (sym equal)
  | inr (inr more) ↦ absurd (omega arith)
]

pub labels-prefix : (config other : List ℕ) (d : ℕ) → ((i : ℕ) → i < d → get_or config i 0 ≡ get_or other i 0) → prefix config d ≡ prefix other d
labels-prefix config other zero same = refl
labels-prefix config other (suc d) same = let rest = labels-prefix config other d (λ i l. same i (omega arith)) in (λ i. same d (omega arith) i ∷ rest i)

abbrev IsFirstLess : List ℕ → List ℕ → ℕ → Type 0
IsFirstLess other config j = ((i : ℕ) → i < j → get_or config i 0 ≡ get_or other i 0) × (get_or other j 0 < get_or config j 0)

first-before : (other config : List ℕ) (j : ℕ) → j < length other → j < length config → IsFirstLess other config j → IsBefore other config
first-before [] config j l h is = absurd (omega arith)
first-before (x ∷ xs) [] j l h is = absurd (omega arith)
first-before (x ∷ xs) (y ∷ ys) zero l h is = IsBefore-head x y xs ys is.1
first-before (x ∷ xs) (y ∷ ys) (suc j) l h is =
    IsBefore-tail x y xs ys (sym (is.0 0 (omega arith))) (first-before xs ys j (omega arith) (omega arith) (λ i m. is.0 (suc i) (omega arith), is.1))

before-first : (other config : List ℕ) → length other ≡ length config → IsBefore other config → (j : ℕ) × (j < length config) × IsFirstLess other config j
before-first [] [] e b = absurd (IsBefore-apart [] b)
before-first [] (y ∷ ys) e b = absurd (omega arith)
before-first (x ∷ xs) [] e b = absurd (omega arith)
before-first (x ∷ xs) (y ∷ ys) e b = by_case (IsBefore-cases x y xs ys b) (before-first xs ys (omega arith))
  where
    by_case : (x < y) ⊎ ((x ≡ y) × IsBefore xs ys) → (IsBefore xs ys → (j : ℕ) × (j < length ys) × IsFirstLess xs ys j) → (j : ℕ) × (j < suc (length ys)) × IsFirstLess (x ∷ xs) (y ∷ ys) j
    by_case (inl l) rest = (0, omega arith, (λ i m. absurd (omega arith), l))
    by_case (inr s) rest = let r = rest s.1 in (suc r.0, omega (arith, r.1), (at_each r.0 r.2.0, r.2.1))
      where
        at_each : (j : ℕ) → ((i : ℕ) → i < j → get_or ys i 0 ≡ get_or xs i 0) → (i : ℕ) → i < suc j → get_or (y ∷ ys) i 0 ≡ get_or (x ∷ xs) i 0
        at_each j same zero m = sym s.0
        at_each j same (suc i) m = same i (omega arith)

-- ---- what precedes a configuration
precedes-from : (other config : List ℕ) (d j : ℕ) → j < d → IsFirstLess other config j → precedes (prefix config d) other ≡ true
precedes-from other config zero j l is = absurd (omega arith)
precedes-from other config (suc d) j l is = elim (three_ways j d) [
  | inl less ↦ or-left (precedes (prefix config d) other) (begins (prefix config d) other && ltb (get_or other (length (prefix config d)) 0) (get_or config d 0)) (precedes-from other config d j less is)
  | inr (inl same) ↦
      let begun : begins (prefix config d) other ≡ true = ap (λ k. begins k other) (labels-prefix config other d (λ i m. is.0 i (omega arith))) ∙ begins-own other d in
      let less : get_or other (length (prefix config d)) 0 < get_or config d 0 = subst (λ k. get_or other k 0 < get_or config d 0) (sym (length-prefix config d)) (subst (λ k. get_or other k 0 < get_or config k 0) same is.1) in
      or-right (precedes (prefix config d) other) (begins (prefix config d) other && ltb (get_or other (length (prefix config d)) 0) (get_or config d 0))
      (true-and (begins (prefix config d) other) (ltb (get_or other (length (prefix config d)) 0) (get_or config d 0)) begun (lt-ltb (get_or other (length (prefix config d)) 0) (get_or config d 0) less))
  | inr (inr more) ↦ absurd (omega arith)
]

from-precedes : (other config : List ℕ) (d : ℕ) → precedes (prefix config d) other ≡ true → (j : ℕ) × (j < d) × IsFirstLess other config j
from-precedes other config zero h = absurd (false≢true h)
from-precedes other config (suc d) h = by_case (or-true (precedes (prefix config d) other) (begins (prefix config d) other && ltb (get_or other (length (prefix config d)) 0) (get_or config d 0)) h) (from-precedes other config d)
  where
    by_case : (precedes (prefix config d) other ≡ true) ⊎ ((begins (prefix config d) other && ltb (get_or other (length (prefix config d)) 0) (get_or config d 0)) ≡ true)
        → (precedes (prefix config d) other ≡ true → (j : ℕ) × (j < d) × IsFirstLess other config j) → (j : ℕ) × (j < suc d) × IsFirstLess other config j
    by_case (inl p) rest = let r = rest p in (r.0, omega (arith, r.1), r.2)
    by_case (inr b) rest =
        let both = and-true (begins (prefix config d) other) (ltb (get_or other (length (prefix config d)) 0) (get_or config d 0)) b in
        let same = begins-same config other d both.0 in
        let less = ltb-true (get_or other (length (prefix config d)) 0) (get_or config d 0) both.1 in
        (d, omega arith, (λ i l. prefix-labels config other d i l same, subst (λ k. get_or other k 0 < get_or config d 0) (length-prefix config d) less))

-- those of its length that precede a configuration are before it
precedes-before : (other config : List ℕ) (d : ℕ) → length other ≡ d → length config ≡ d → precedes (prefix config d) other ≡ true → IsBefore other config
precedes-before other config d e f h = let j = from-precedes other config d h in first-before other config j.0 (omega (arith, j.1)) (omega (arith, j.1)) j.2

before-precedes : (other config : List ℕ) (d : ℕ) → length other ≡ d → length config ≡ d → IsBefore other config → precedes (prefix config d) other ≡ true
before-precedes other config d e f b = let j = before-first other config (e ∙ sym f) b in precedes-from other config d j.0 (omega (arith, j.1)) j.2

head-below : (x : List ℕ) (xs : List (List ℕ)) → IsRising IsBefore (x ∷ xs) → (z : List ℕ) → In z xs → IsBefore x z
head-below x [] h z i = absurd i
head-below x (y ∷ ys) h z i = rising-below IsBefore IsBefore-trans x y ys h.0 h.1 z i

-- the configuration whose place is counted
pub place-counted : (configs : List (List ℕ)) (config : List ℕ) (degree : ℕ) → IsRising IsBefore configs → ((c : List ℕ) → In c configs → length c ≡ degree) → length config ≡ degree → In config configs
    → get_or configs (count_by (precedes (prefix config degree)) configs) [] ≡ config
place-counted [] config degree rises fits long i = absurd i
place-counted (x ∷ xs) config degree rises fits long i = by_case i (place-counted xs config degree (tail_rises x xs rises) (λ c k. fits c (inr k)) long)
  where
    by_case : (config ≡ x) ⊎ In config xs → (In config xs → get_or xs (count_by (precedes (prefix config degree)) xs) [] ≡ config) → get_or (x ∷ xs) (count_by (precedes (prefix config degree)) (x ∷ xs)) [] ≡ config
    by_case (inl e) rest = ap (λ n. get_or (x ∷ xs) n []) none ∙ sym e
      where
        none : count_by (precedes (prefix config degree)) (x ∷ xs) ≡ 0
        none = none_counted (precedes (prefix config degree)) (x ∷ xs) (λ y held h.
            let k = Contains-In y (x ∷ xs) held in
            let b = precedes-before y config degree (fits y k) long h in
            elim k [
              | inl f ↦ IsBefore-apart config (subst (λ z. IsBefore z config) (f ∙ sym e) b)
              | inr m ↦ IsBefore-apart config (IsBefore-trans config y config (subst (λ z. IsBefore z y) (sym e) (head-below x xs rises y m)) b)
            ])
    by_case (inr j) rest =
        let number : Bool → ℕ = λ b. cond b 1 0 in
        let yes : precedes (prefix config degree) x ≡ true = before-precedes x config degree (fits x (inl refl)) long (head-below x xs rises config j) in
        let count : count_by (precedes (prefix config degree)) (x ∷ xs) ≡ 1 + count_by (precedes (prefix config degree)) xs =
        sum_by-cons (λ c. cond (precedes (prefix config degree) c) 1 0) x xs ∙ ap (λ n. n + count_by (precedes (prefix config degree)) xs) (ap number yes) in
        let step : count_by (precedes (prefix config degree)) (x ∷ xs) ≡ suc (count_by (precedes (prefix config degree)) xs) = omega arith in
        ap (λ n. get_or (x ∷ xs) n []) step ∙ rest j

-- one configuration alone has all labels of a configuration
pub one-counted : (configs : List (List ℕ)) (config : List ℕ) (degree : ℕ) → IsRising IsBefore configs → ((c : List ℕ) → In c configs → length c ≡ degree) → length config ≡ degree → In config configs
    → count_by (begins (prefix config degree)) configs ≡ 1
one-counted [] config degree rises fits long i = absurd i
one-counted (x ∷ xs) config degree rises fits long i = sum_by-cons (λ c. cond (begins (prefix config degree) c) 1 0) x xs ∙ by_case i (one-counted xs config degree (tail_rises x xs rises) (λ c k. fits c (inr k)) long)
  where
    by_case : (config ≡ x) ⊎ In config xs → (In config xs → count_by (begins (prefix config degree)) xs ≡ 1) → cond (begins (prefix config degree) x) 1 0 + count_by (begins (prefix config degree)) xs ≡ 1
    by_case (inl e) rest =
        let number : Bool → ℕ = λ b. cond b 1 0 in
        let yes : begins (prefix config degree) x ≡ true = subst (λ c. begins (prefix config degree) c ≡ true) e (begins-own config degree) in
        let none : count_by (begins (prefix config degree)) xs ≡ 0 = none_counted (begins (prefix config degree)) xs (λ y held h.
        let k = Contains-In y xs held in
        let same : config ≡ y = prefix_whole config y degree long (fits y (inr k)) (begins-same config y degree h) in
        IsBefore-apart x (subst (IsBefore x) (sym same ∙ e) (head-below x xs rises y k))) in
        (λ i. number (yes i) + none i)
    by_case (inr j) rest =
        let number : Bool → ℕ = λ b. cond b 1 0 in
        let test : begins (prefix config degree) x ≡ false = by_test (begins (prefix config degree) x) refl in
        ap (λ n. n + count_by (begins (prefix config degree)) xs) (ap number test) ∙ zero-add (count_by (begins (prefix config degree)) xs) ∙ rest j
      where
        by_test : (b : Bool) → begins (prefix config degree) x ≡ b → begins (prefix config degree) x ≡ false
        by_test true h =
            let same : config ≡ x = prefix_whole config x degree long (fits x (inl refl)) (begins-same config x degree h) in
            absurd (IsBefore-apart x (subst (IsBefore x) same (head-below x xs rises config j)))
        by_test false h = h

-- ---- sums of counts
pub counts-alike : {X : Type 0} (f g h k : X → Bool) (xs : List X) → ((x : X) → In x xs → cond (f x) 1 0 + cond (g x) 1 0 ≡ cond (h x) 1 0 + cond (k x) 1 0) → count_by f xs + count_by g xs ≡ count_by h xs + count_by k xs
counts-alike f g h k [] same = refl
counts-alike f g h k (x ∷ xs) same =
    let rest = counts-alike f g h k xs (λ y i. same y (inr i)) in
    let here = same x (inl refl) in
    let a : count_by f (x ∷ xs) ≡ cond (f x) 1 0 + count_by f xs = sum_by-cons (λ c. cond (f c) 1 0) x xs in
    let b : count_by g (x ∷ xs) ≡ cond (g x) 1 0 + count_by g xs = sum_by-cons (λ c. cond (g c) 1 0) x xs in
    let c : count_by h (x ∷ xs) ≡ cond (h x) 1 0 + count_by h xs = sum_by-cons (λ c. cond (h c) 1 0) x xs in
    let d : count_by k (x ∷ xs) ≡ cond (k x) 1 0 + count_by k xs = sum_by-cons (λ c. cond (k c) 1 0) x xs in
    (λ i. a i + b i) ∙ sums (cond (f x) 1 0) (count_by f xs) (cond (g x) 1 0) (count_by g xs) (cond (h x) 1 0) (count_by h xs) (cond (k x) 1 0) (count_by k xs) here rest ∙ sym (λ i. c i + d i)
  where
    sums : (a b c d e f g h : ℕ) → a + c ≡ e + g → b + d ≡ f + h → (a + b) + (c + d) ≡ (e + f) + (g + h)
    sums a b c d e f g h p q = omega arith
