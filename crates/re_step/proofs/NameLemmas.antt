-- The names of the labels of a derived problem.
use Rattle.re_labels.proofs.Sorting.{take_all}
use Rattle.std.proofs.Common.{◌≡◌, ℕ, zero, suc, ◌<◌, ◌≤◌, ◌+◌, Bool, true, false, cond, leb, List, [], ◌∷◌, ◌++◌, ◌&&◌, length, map, take, get_or, ◌⊎◌, codes, inl, inr, refl, sym, ap, ◌∙◌, subst, arith}
use Rattle.std.specs.List.{AllByRecursion, list_all}
use Rattle.std.specs.Cmp.Lexicographic.{slice_cmp}
use Rattle.std.specs.Ordering.{is_lt, nat_cmp}
use Rattle.std.proofs.lemmas.List.{take_more}
use Rattle.std.specs.declared.cmp.Ordering.{Ordering}
use Rattle.std.specs.declared.cmp.Ordering.TheVariants.{Less, Equal, Greater}
use Rattle.std.proofs.lemmas.Bool.{false≢true, leb-true}
use Rattle.re_problem.specs.Derived.{derived}
use Rattle.re_problem.specs.NamedProblems.{unnamed}
use Rattle.re_problem.specs.Problems.{Problem}
use Rattle.re_step.specs.Derivations.{named_derived}
use Rattle.re_labels.proofs.Insertions.{length-with_list_most}
use Rattle.re_labels.proofs.ListSets.{In-list_set, list_set-In, list_set_push, one_set, rising-list_set}
use Rattle.re_labels.proofs.Membership.{length-count_from, length-map'}
use Rattle.re_labels.proofs.Tests.{and-true}
use Rattle.re_labels.specs.Lists.{IsBefore, IsRising, count_from}
use Rattle.re_labels.specs.ListSets.{list_set, with_list}
use Rattle.re_labels.specs.Names.{IsName, IsNames, is_name}
use Rattle.re_step.specs.LabelNames.{label_name, label_names, letter, three_digits}
use Rattle.re_labels.specs.declared.TheConstants.{MAX_LABELS}

-- ---- tests that compute
rising_test : List (List ℕ) → Bool
rising_test [] = true
rising_test (x ∷ []) = true
rising_test (x ∷ y ∷ xs) = is_lt (slice_cmp nat_cmp x y) && rising_test (y ∷ xs)

letters : List (List ℕ)
letters = map (λ i. letter i ∷ []) (count_from 0 52)

numbered : List (List ℕ)
numbered = map (λ i. codes "L" ++ three_digits i) (count_from 0 MAX_LABELS)

letters_rise : rising_test letters ≡ true
unfolding rising_test letters
letters_rise = refl

numbered_rise : rising_test numbered ≡ true
unfolding rising_test numbered
numbered_rise = refl

letters_named : list_all is_name letters ≡ true
unfolding letters
letters_named = refl

numbered_named : list_all is_name numbered ≡ true
unfolding numbered
numbered_named = refl

from_rising_test : (xs : List (List ℕ)) → rising_test xs ≡ true → IsRising IsBefore xs
unfolding rising_test
from_rising_test [] h = tt
from_rising_test (x ∷ []) h = tt
from_rising_test (x ∷ y ∷ xs) h = let both = and-true (is_lt (slice_cmp nat_cmp x y)) (rising_test (y ∷ xs)) h in (lt_less (slice_cmp nat_cmp x y) both.0, from_rising_test (y ∷ xs) both.1)
  where
    lt_less : (o : Ordering) → is_lt o ≡ true → o ≡ Less
    lt_less Less h = refl
    lt_less Equal h = absurd (false≢true h)
    lt_less Greater h = absurd (false≢true h)

from_name_test : (xs : List (List ℕ)) → list_all is_name xs ≡ true → AllByRecursion IsName xs
from_name_test [] h = tt
from_name_test (x ∷ xs) h = let both = and-true (is_name x) (list_all is_name xs) h in (both.0, from_name_test xs both.1)

-- ---- the first ones of a list
take_counted : (f : ℕ → List ℕ) (lo n m : ℕ) → n ≤ m → take n (map f (count_from lo m)) ≡ map f (count_from lo n)
take_counted f lo zero m l = refl
take_counted f lo (suc n) zero l = absurd (omega arith)
take_counted f lo (suc n) (suc m) l = ap (λ w. f lo ∷ w) (take_counted f (suc lo) n m (omega arith))

rising_take : (n : ℕ) (xs : List (List ℕ)) → IsRising IsBefore xs → IsRising IsBefore (take n xs)
rising_take zero xs h = tt
rising_take (suc n) [] h = tt
rising_take (suc zero) (x ∷ xs) h = tt
rising_take (suc (suc n)) (x ∷ []) h = tt
rising_take (suc (suc n)) (x ∷ y ∷ xs) h = (h.0, rising_take (suc n) (y ∷ xs) h.1)

all_take : (P : List ℕ → Type 0) (n : ℕ) (xs : List (List ℕ)) → AllByRecursion P xs → AllByRecursion P (take n xs)
all_take P zero xs h = tt
all_take P (suc n) [] h = tt
all_take P (suc n) (x ∷ xs) h = (h.0, all_take P n xs h.1)

map_alike : (f g : ℕ → List ℕ) → ((i : ℕ) → f i ≡ g i) → (xs : List ℕ) → map f xs ≡ map g xs
map_alike f g h [] = refl
map_alike f g h (x ∷ xs) = λ i. h x i ∷ map_alike f g h xs i

-- the names are the first of the letters, or of the numbered ones
names_are : (count : ℕ) → count ≤ MAX_LABELS → (label_names count ≡ take count letters) ⊎ (label_names count ≡ take count numbered)
unfolding letters numbered
names_are count most = go (leb count 52) refl
  where
    go : (b : Bool) → leb count 52 ≡ b → (label_names count ≡ take count letters) ⊎ (label_names count ≡ take count numbered)
    go true e = inl (map_alike (label_name count) (λ i. letter i ∷ []) (λ i. ap (λ b. cond b (letter i ∷ []) (codes "L" ++ three_digits i)) e) (count_from 0 count)
        ∙ sym (take_counted (λ i. letter i ∷ []) 0 count 52 (leb-true count 52 e)))
    go false e = inr (map_alike (label_name count) (λ i. codes "L" ++ three_digits i) (λ i. ap (λ b. cond b (letter i ∷ []) (codes "L" ++ three_digits i)) e) (count_from 0 count)
        ∙ sym (take_counted (λ i. codes "L" ++ three_digits i) 0 count MAX_LABELS most))

pub IsNames-label_names : (count : ℕ) → count ≤ MAX_LABELS → IsNames (label_names count)
IsNames-label_names count most = record {
  ascends = elim (names_are count most) [
    | inl e ↦ subst (IsRising IsBefore) (sym e) (rising_take count letters (from_rising_test letters letters_rise))
    | inr e ↦ subst (IsRising IsBefore) (sym e) (rising_take count numbered (from_rising_test numbered numbered_rise))
  ];
  each = elim (names_are count most) [
    | inl e ↦ subst (AllByRecursion IsName) (sym e) (all_take IsName count letters (from_name_test letters letters_named))
    | inr e ↦ subst (AllByRecursion IsName) (sym e) (all_take IsName count numbered (from_name_test numbered numbered_named))
  ];
  few = let n = length-map' (label_name count) (count_from 0 count) in let m = length-count_from 0 count in omega (arith, n, m, most);
}

-- ---- one after another
pub length-label_names : (count : ℕ) → length (label_names count) ≡ count
length-label_names count = length-map' (label_name count) (count_from 0 count) ∙ length-count_from 0 count

names_at : (count i : ℕ) (d : List ℕ) → i < count → get_or (label_names count) i d ≡ label_name count i
names_at count i d l = go 0 count i l ∙ ap (label_name count) (omega arith)
  where
    go : (lo k i : ℕ) → i < k → get_or (map (label_name count) (count_from lo k)) i d ≡ label_name count (lo + i)
    go lo zero i l = absurd (omega arith)
    go lo (suc k) zero l = ap (label_name count) (omega arith)
    go lo (suc k) (suc i) l = go (suc lo) k i (omega arith) ∙ ap (label_name count) (omega arith)

pub names_step : (count i : ℕ) (name : List ℕ) → i < count → name ≡ label_name count i
    → (names after : List (List ℕ)) → names ≡ list_set (take i (label_names count)) → length names ≤ i → after ≡ with_list names name
    → (after ≡ list_set (take (i + 1) (label_names count))) × (length after ≤ i + 1)
names_step count i name l n names after e few a =
    let short : i < length (label_names count) = (let m = length-label_names count in omega (arith, m, l)) in
    let longer : take (i + 1) (label_names count) ≡ take i (label_names count) ++ label_name count i ∷ []
    = take_more (label_names count) i name short ∙ ap (λ p. take i (label_names count) ++ p ∷ []) (names_at count i name l) in
    let is : after ≡ list_set (take (i + 1) (label_names count))
    = a ∙ ap (with_list names) n ∙ ap (λ w. with_list w (label_name count i)) e ∙ sym (list_set_push (take i (label_names count)) (label_name count i)) ∙ ap list_set (sym longer) in
    let most = length-with_list_most names name in
    (is, subst (λ w. length w ≤ i + 1) (sym a) (omega (arith, most, few)))

pub names_done : (count i : ℕ) (names : List (List ℕ)) → count ≤ MAX_LABELS → count ≤ i → names ≡ list_set (take i (label_names count)) → names ≡ label_names count
names_done count i names most l e =
    e ∙ ap list_set (take_all (label_names count) i (let n = length-label_names count in omega (arith, n, l)))
    ∙ one_set (list_set (label_names count)) (label_names count) (rising-list_set (label_names count)) (IsNames-label_names count most).ascends (In-list_set (label_names count)) (list_set-In (label_names count))

-- the derived problem with its names, without them
pub unnamed-derived : (problem : Problem) → unnamed (named_derived problem) ≡ derived problem
unnamed-derived problem = λ i. record { labels = length-label_names (derived problem).labels i; active = (derived problem).active; passive = (derived problem).passive }
