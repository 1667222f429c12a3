-- The first of a list that passes a test, found from place to place.
use Rattle.std.proofs.Common.{◌≡◌, ℕ, zero, suc, ◌<◌, ◌≤◌, Bool, true, false, not, List, [], ◌∷◌, length, get_or, take, refl, sym, ap, ◌∙◌, subst, arith, Some, None}
use Rattle.std.specs.Prelude.{Contains, IsTrue, ◌↔◌}
use Rattle.std.specs.List.{find}
use Rattle.re_labels.specs.Configs.{image_at}
use Rattle.re_labels.specs.Rows.{set_at}
use Rattle.re_labels.proofs.Membership.{get_or-count_from, length-count_from}
use Rattle.re_labels.proofs.Sets.{IsIn-has, has-IsIn}
use Rattle.re_labels.proofs.Tests.{same_tests}
use Rattle.re_labels.specs.Lists.{count_from}
use Rattle.re_labels.specs.Sets.{has}
use Rattle.re_problem.specs.Verdicts.{first_label}

pub find-here : {X : Type 0} (p : X → Bool) (xs : List X) (i : ℕ) (d : X) → i < length xs → ((k : ℕ) → k < i → p (get_or xs k d) ≡ false) → p (get_or xs i d) ≡ true → find p xs ≡ Some (get_or xs i d)
find-here p [] i d l before now = absurd (omega arith)
find-here p (x ∷ xs) zero d l before now = rw now refl
find-here p (x ∷ xs) (suc i) d l before now =
    let first : p x ≡ false = before 0 (omega arith) in
    rw first (find-here p xs i d (omega arith) (λ k h. before (suc k) (omega arith)) now)

pub find-none : {X : Type 0} (p : X → Bool) (xs : List X) (d : X) → ((k : ℕ) → k < length xs → p (get_or xs k d) ≡ false) → find p xs ≡ None
find-none p [] d before = refl
find-none p (x ∷ xs) d before =
    let first : p x ≡ false = before 0 (omega arith) in
    rw first (find-none p xs d (λ k h. before (suc k) (omega arith)))

-- a configuration that fails a test behind others that pass it
pub failing-here : (test : List ℕ → Bool) (configs : List (List ℕ)) (place : ℕ) (config copy : List ℕ) (r : Bool) → place < length configs → config ≡ get_or configs place [] → copy ≡ config
    → ((k : ℕ) → k < place → not (test (get_or configs k [])) ≡ false) → r ≡ test config → r ≡ false → Some copy ≡ find (λ c. not (test c)) configs
failing-here test configs place config copy r l at same before is fails =
    ap Some (same ∙ at) ∙ sym (find-here (λ c. not (test c)) configs place [] l before (ap not (ap test (sym at) ∙ sym is ∙ fails)))

pub failing-none : (test : List ℕ → Bool) (configs : List (List ℕ)) (place : ℕ) → length configs ≤ place → ((k : ℕ) → k < place → not (test (get_or configs k [])) ≡ false) → None ≡ find (λ c. not (test c)) configs
failing-none test configs place l before = sym (find-none (λ c. not (test c)) configs [] (λ k h. before k (omega arith)))

-- one more that passes
pub passing-more : (test : List ℕ → Bool) (configs : List (List ℕ)) (place : ℕ) (config : List ℕ) (r : Bool) → config ≡ get_or configs place [] → r ≡ test config → r ≡ true → not (test (get_or configs place [])) ≡ false
passing-more test configs place config r at is passes = ap not (ap test (sym at) ∙ sym is ∙ passes)

pub label-here : (test : ℕ → Bool) (n i : ℕ) → i < n → ((k : ℕ) → k < i → test k ≡ false) → test i ≡ true → first_label test n ≡ Some i
label-here test n i l before now =
    let at : (k : ℕ) → k < n → get_or (count_from 0 n) k 0 ≡ k = λ k h. get_or-count_from 0 n k 0 h ∙ omega arith in
    find-here test (count_from 0 n) i 0 (omega (arith, length-count_from 0 n)) (λ k h. ap test (at k (omega arith)) ∙ before k h) (ap test (at i l) ∙ now) ∙ ap Some (at i l)

pub label-none : (test : ℕ → Bool) (n : ℕ) → ((k : ℕ) → k < n → test k ≡ false) → first_label test n ≡ None
label-none test n before =
    find-none test (count_from 0 n) 0 (λ k h. let l : k < n = omega (arith, length-count_from 0 n) in let at : get_or (count_from 0 n) k 0 ≡ k = get_or-count_from 0 n k 0 l ∙ omega arith in ap test at ∙ before k l)

-- the default doesn't matter at a place of the list
pub same_set : (sets : List (List ℕ)) (i : ℕ) (d : List ℕ) → i < length sets → get_or sets i d ≡ set_at sets i
same_set [] i d l = absurd (omega arith)
same_set (s ∷ sets) zero d l = refl
same_set (s ∷ sets) (suc i) d l = same_set sets i d (omega arith)
