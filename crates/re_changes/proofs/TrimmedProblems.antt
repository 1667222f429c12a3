-- Trimming: the least covered label, the problem without it, and that none is left at the end.
use Rattle.std.proofs.Common.{◌≡◌, ℕ, zero, suc, ◌<◌, ◌≤◌, ◌+◌, Bool, true, false, not, cond, eqb, ◌&&◌, List, [], ◌∷◌, length, map, get_or, Option, None, Some, refl, sym, ap, ◌∙◌, subst, arith, inl, inr}
use Rattle.std.specs.Prelude.{Contains, filter, find, ◌==◌}
use Rattle.std.specs.List.{AllByRecursion}
use Rattle.std.proofs.lemmas.Bool.{false≢true}
use Rattle.std.proofs.lemmas.Bool.Decides.{eqb_tells}
use Rattle.std.proofs.lemmas.List.{get_or-map}
use Rattle.re_labels.specs.Configs.{image_at}
use Rattle.re_labels.proofs.Membership.{AllByRecursion-from_In, Contains-In, Contains-count_from, Contains-filter, Contains-filter_cases, Contains-here, Contains-later, In, In-Contains, In-filter_from, In-map_from, any_found, any_true, get_or-count_from, length-count_from, length-map'}
use Rattle.re_labels.proofs.Numbers.{IsLabelSet-count_from, IsLabelSet-filter}
use Rattle.re_labels.proofs.Sets.{IsIn-has, IsIn-meet, IsIn-meet_cases}
use Rattle.re_labels.proofs.Tests.{and-true, eqb-apart, eqb-same, same_tests, true-and}
use Rattle.re_labels.specs.Lists.{count_from}
use Rattle.re_labels.specs.Sets.{IsIn, IsLabelSet, has, meet, without_label}
use Rattle.re_problem.specs.NamedProblems.{IsNamedProblem, NamedProblem, unnamed}
use Rattle.re_problem.specs.Problems.{Problem}
use Rattle.re_labels.proofs.Strengths.{IsIn-up_set, IsIn-up_set_cases}
use Rattle.re_labels.specs.Constraints.{Constraint, IsConstraint}
use Rattle.re_labels.specs.Strength.{constraint_without, up_set}
use Rattle.re_changes.proofs.Alike.{below_bound}
use Rattle.re_changes.proofs.CoveredLabels.{occurs-without}
use Rattle.re_labels.proofs.ConstraintImages.{config-below}
use Rattle.re_changes.proofs.MergedLabels.{covers-fact, covers-test}
use Rattle.re_changes.proofs.RenumberedProblems.{IsBuilt}
use Rattle.re_changes.proofs.Numbering.{at_number, number-most, renumbered-built}
use Rattle.re_changes.specs.Laws.{TrimmedLaw}
use Rattle.re_changes.specs.Merging.{covers}
use Rattle.re_changes.specs.Renumbering.{number_among}
use Rattle.re_changes.specs.Trimming.{all_but, first_covered, is_covered, leaving_out, named_without, trimmed, trimmed_of}

-- ---- whether a label is covered
pub covered-by : (problem : Problem) (a : ℕ) → is_covered problem a ≡ true → (b : ℕ) × (b < problem.labels) × (b ≡ a → ⊥) × (covers problem b a ≡ true)
covered-by problem a h =
    let (b, held, passes) = any_found (λ b. not (b == a) && covers problem b a) (count_from 0 problem.labels) h in
    let two = and-true (not (b == a)) (covers problem b a) passes in
    (b, below_bound problem.labels b held, (λ e. false≢true (sym (ap not (ap (λ x. eqb x a) e ∙ eqb-same a)) ∙ two.0)), two.1)

pub by-covered : (problem : Problem) (a b : ℕ) → b < problem.labels → (b ≡ a → ⊥) → covers problem b a ≡ true → is_covered problem a ≡ true
by-covered problem a b l apart h = any_true (λ b. not (b == a) && covers problem b a) (count_from 0 problem.labels) b (Contains-count_from 0 problem.labels b (omega arith) (omega arith))
    (true-and (not (b == a)) (covers problem b a) (ap not (eqb-apart b a apart)) h)

some-long : {X : Type 0} (xs : List X) (x : X) → Contains xs x → length xs ≡ 0 → ⊥
some-long xs x (k, l, e) none = absurd (omega arith)

-- a label is covered where the set of those that cover it has another one
pub covered-tells : (problem : Problem) (a : ℕ) (set others : List ℕ) (r : Bool) → set ≡ meet (up_set problem.active a problem.labels) (up_set problem.passive a problem.labels)
    → others ≡ without_label set a → r ≡ eqb (length others) 0 → not r ≡ is_covered problem a
covered-tells problem a set others r e f empty =
    same_tests (not r) (is_covered problem a) (λ h. from others refl h) to
  where
    to : is_covered problem a ≡ true → not r ≡ true
    to h =
        let (b, l, apart, passes) = covered-by problem a h in
        let two = covers-fact problem b a passes in
        let both : IsIn b set =
        subst (IsIn b) (sym e) (IsIn-meet (up_set problem.active a problem.labels) (up_set problem.passive a problem.labels) b (IsIn-up_set problem.active a b problem.labels l two.0) (IsIn-up_set problem.passive a b problem.labels l two.1)) in
        let held : IsIn b others = subst (IsIn b) (sym f) (Contains-filter (λ y. not (eqb y a)) set b both (ap not (eqb-apart b a apart))) in
        ap not (empty ∙ eqb-apart (length others) 0 (λ none. some-long others b held none))

    from : (all : List ℕ) → others ≡ all → not r ≡ true → is_covered problem a ≡ true
    from [] is h = absurd (false≢true (sym (ap not (empty ∙ ap (λ s. eqb (length s) 0) is)) ∙ h))
    from (b ∷ rest) is h =
        let held : IsIn b (without_label set a) = subst (IsIn b) (sym is ∙ f) (Contains-here b rest) in
        let one = Contains-filter_cases (λ y. not (eqb y a)) set b held in
        let two = IsIn-meet_cases (up_set problem.active a problem.labels) (up_set problem.passive a problem.labels) b (subst (IsIn b) e one.0) in
        let active = IsIn-up_set_cases problem.active a b problem.labels two.0 in
        let passive = IsIn-up_set_cases problem.passive a b problem.labels two.1 in
        by-covered problem a b active.0 (λ same. false≢true (sym (ap not (ap (λ x. eqb x a) same ∙ eqb-same a)) ∙ one.1)) (covers-test problem b a (active.1, passive.1))

-- ---- what a search finds
pub found : {X : Type 0} (p : X → Bool) (xs : List X) (x : X) → find p xs ≡ Some x → Contains xs x × (p x ≡ true)
found p [] x h = cc
found {X} p (y ∷ xs) x h = go (p y) refl h (found p xs x)
  where
    go : (t : Bool) → p y ≡ t → cond t (Some y) (find p xs) ≡ Some x → (find p xs ≡ Some x → Contains xs x × (p x ≡ true)) → Contains (y ∷ xs) x × (p x ≡ true)
    go true e h rest = let same : y ≡ x = cc in (subst (Contains (y ∷ xs)) same (Contains-here y xs), ap p (sym same) ∙ e)
    go false e h rest = let two = rest h in (Contains-later x y xs two.0, two.1)

not-found : {X : Type 0} (p : X → Bool) (xs : List X) (x : X) → find p xs ≡ None → In x xs → p x ≡ true → ⊥
not-found p [] x h i t = i
not-found p (y ∷ xs) x h (inl e) t = let first : p y ≡ true = ap p (sym e) ∙ t in let some : Some y ≡ None = ap (λ b. cond b (Some y) (find p xs)) (sym first) ∙ h in cc
not-found {X} p (y ∷ xs) x h (inr j) t = by (p y) refl h (λ k. not-found p xs x k j t)
  where
    by : (b : Bool) → p y ≡ b → cond b (Some y) (find p xs) ≡ None → (find p xs ≡ None → ⊥) → ⊥
    by true e k rest = cc
    by false e k rest = rest k

pub covered-first : (named : NamedProblem) (a : ℕ) → first_covered (unnamed named) ≡ Some a → (a < length named.names) × (is_covered (unnamed named) a ≡ true)
covered-first named a h = let two = found (is_covered (unnamed named)) (count_from 0 (length named.names)) a h in (below_bound (length named.names) a two.0, two.1)

-- ---- the labels but one
pub IsLabelSet-all_but : (a n : ℕ) → IsLabelSet n (all_but a n)
IsLabelSet-all_but a n = IsLabelSet-filter (λ y. not (eqb y a)) n (count_from 0 n) (IsLabelSet-count_from 0 n n (omega arith))

pub in-all_but : (a n x : ℕ) → x < n → (x ≡ a → ⊥) → In x (all_but a n)
in-all_but a n x l apart = Contains-In x (all_but a n) (Contains-filter (λ y. not (eqb y a)) (count_from 0 n) x (Contains-count_from 0 n x (omega arith) (omega arith)) (ap not (eqb-apart x a apart)))

pub of-all_but : (a n x : ℕ) → In x (all_but a n) → (x < n) × (x ≡ a → ⊥)
of-all_but a n x i =
    let two = Contains-filter_cases (λ y. not (eqb y a)) (count_from 0 n) x (In-Contains x (all_but a n) i) in
    (below_bound n x two.0, λ same. false≢true (sym (ap not (ap (λ y. eqb y a) same ∙ eqb-same a)) ∙ two.1))

filter-shorter : (p : ℕ → Bool) (xs : List ℕ) → length (filter p xs) ≤ length xs
filter-shorter p [] = omega arith
filter-shorter p (x ∷ xs) = elim (p x) as (λ b. length (cond b (x ∷ filter p xs) (filter p xs)) ≤ suc (length xs)) [
  | true ↦ let l = filter-shorter p xs in omega arith
  | false ↦ let l = filter-shorter p xs in omega arith
]

filter-fewer : (p : ℕ → Bool) (xs : List ℕ) (x : ℕ) → In x xs → p x ≡ false → length (filter p xs) < length xs
filter-fewer p [] x i h = absurd i
filter-fewer p (y ∷ xs) x (inl e) h =
    let first : p y ≡ false = ap p (sym e) ∙ h in
    let l = filter-shorter p xs in
    subst (λ b. length (cond b (y ∷ filter p xs) (filter p xs)) < suc (length xs)) (sym first) (omega arith)
filter-fewer p (y ∷ xs) x (inr i) h = elim (p y) as (λ b. length (cond b (y ∷ filter p xs) (filter p xs)) < suc (length xs)) [
  | true ↦ let l = filter-fewer p xs x i h in omega arith
  | false ↦ let l = filter-fewer p xs x i h in omega arith
]

pub length-all_but : (a n : ℕ) → a < n → length (all_but a n) < n
length-all_but a n l =
    let fewer = filter-fewer (λ y. not (eqb y a)) (count_from 0 n) a (Contains-In a (count_from 0 n) (Contains-count_from 0 n a (omega arith) (omega arith))) (ap not (eqb-same a)) in
    omega (arith, fewer, length-count_from 0 n)

-- the new number of a label
pub image-without : (named : NamedProblem) (a x : ℕ) → x < length named.names
    → image_at (map (number_among (all_but a (length named.names))) (count_from 0 (length named.names))) x ≡ number_among (all_but a (length named.names)) x
image-without named a x l =
    let m : x < length (count_from 0 (length named.names)) = omega (arith, length-count_from 0 (length named.names)) in
    let z : 0 + x ≡ x = omega arith in
    get_or-map (number_among (all_but a (length named.names))) (count_from 0 (length named.names)) x 0 0 m ∙ ap (number_among (all_but a (length named.names))) (get_or-count_from 0 (length named.names) x 0 l ∙ z)

-- a label of a configuration that stays is below the bound, and isn't the one that goes
pub label-left : (n a : ℕ) (constraint : Constraint) → IsConstraint n constraint → (config : List ℕ) (x : ℕ) → In config (constraint_without a constraint).configs → In x config → (x < n) × (x ≡ a → ⊥)
label-left n a constraint c config x i j =
    let two = In-filter_from (λ config. not (has config a)) config constraint.configs i in (
      config-below n constraint c config x two.0 j,
      λ e. false≢true (sym (ap not (IsIn-has config a (subst (Contains config) e (In-Contains x config j)))) ∙ two.1),
    )

pub labels-left : (named : NamedProblem) (a : ℕ) (constraint : Constraint) → IsConstraint (length named.names) constraint → (config : List ℕ) (x : ℕ) → In config (constraint_without a constraint).configs → In x config
    → image_at (map (number_among (all_but a (length named.names))) (count_from 0 (length named.names))) x < length (all_but a (length named.names))
labels-left named a constraint c config x i j =
    let left = label-left (length named.names) a constraint c config x i j in
    let r = (at_number (all_but a (length named.names)) x (IsLabelSet-all_but a (length named.names)).0 (in-all_but a (length named.names) x left.0 left.1)).0 in
    subst (λ k. k < length (all_but a (length named.names))) (sym (image-without named a x left.0)) r

-- ---- the problem without the least covered label
module _ (named : NamedProblem) (is : IsNamedProblem named) (a : ℕ) (first : first_covered (unnamed named) ≡ Some a) where
  pub without-built : IsBuilt (all_but a (length named.names)) (map (number_among (all_but a (length named.names))) (count_from 0 (length named.names)))
      (record { names = named.names; active = constraint_without a named.active; passive = constraint_without a named.passive })
  without-built = renumbered-built (all_but a (length named.names)) (map (number_among (all_but a (length named.names))) (count_from 0 (length named.names)))
      (record { names = named.names; active = constraint_without a named.active; passive = constraint_without a named.passive })
      (IsLabelSet-all_but a (length named.names)).0 (labels-left named a named.active is.problem.active) (labels-left named a named.passive is.problem.passive)
      (λ x i. image-without named a x (of-all_but a (length named.names) x i).0)
      (λ x i.
      let it = of-all_but a (length named.names) x i in
      let (b, l, apart, passes) = covered-by (unnamed named) a (covered-first named a first).1 in
      let two = covers-fact (unnamed named) b a passes in
      elim (is.occur x it.0) [
        | inl o ↦ inl (occurs-without named.active a b x apart it.1 two.0 o)
        | inr o ↦ inr (occurs-without named.passive a b x apart it.1 two.1 o)
      ])

-- the images of the labels fit
pub without-below : (a n m : ℕ) → a < n → n ≤ m → AllByRecursion (λ image. image < m) (map (number_among (all_but a n)) (count_from 0 n))
without-below a n m l most = AllByRecursion-from_In (λ image. image < m) (map (number_among (all_but a n)) (count_from 0 n)) (λ image i.
    let from = In-map_from (number_among (all_but a n)) image (count_from 0 n) i in
    let e = from.2 in
    let fewer = length-all_but a n l in
    let k = number-most (all_but a n) from.0 in
    omega arith)

-- ---- all steps
pub trimmed-none : (k : ℕ) (named : NamedProblem) → first_covered (unnamed named) ≡ None → trimmed k named ≡ named
trimmed-none zero named h = refl
trimmed-none (suc k) named h = ap (λ o. trimmed k (leaving_out o named)) h ∙ trimmed-none k named h

pub trimmed-some : (k : ℕ) (named : NamedProblem) (a : ℕ) → first_covered (unnamed named) ≡ Some a → trimmed (suc k) named ≡ trimmed k (named_without a named)
trimmed-some k named a h = ap (λ o. trimmed k (leaving_out o named)) h

-- nothing is covered once there were as many steps as labels
trimmed-all : (k : ℕ) (named : NamedProblem) → length named.names ≤ k → first_covered (unnamed (trimmed k named)) ≡ None
trimmed-all zero named l = let e : length named.names ≡ 0 = omega arith in ap (λ n. find (is_covered (unnamed named)) (count_from 0 n)) e
trimmed-all (suc k) named l = go (first_covered (unnamed named)) refl (λ a. trimmed-all k (named_without a named))
  where
    go : (o : Option ℕ) → first_covered (unnamed named) ≡ o → ((a : ℕ) → length (named_without a named).names ≤ k → first_covered (unnamed (trimmed k (named_without a named))) ≡ None)
        → first_covered (unnamed (trimmed (suc k) named)) ≡ None
    go None h rest = ap (λ p. first_covered (unnamed p)) (trimmed-none (suc k) named h) ∙ h
    go (Some a) h rest =
        let count = length-map' (λ label. get_or named.names label []) (all_but a (length named.names)) in
        let fewer = length-all_but a (length named.names) (covered-first named a h).0 in
        ap (λ p. first_covered (unnamed p)) (trimmed-some k named a h) ∙ rest a (omega arith)

pub trimmed_law : TrimmedLaw
trimmed_law named a b l m two = elim (eqb_tells b a) [
  | inl t ↦ t.1
  | inr t ↦ absurd (not-found (is_covered (unnamed (trimmed_of named))) (count_from 0 (length (trimmed_of named).names)) a (trimmed-all (length named.names) named (omega arith))
      (Contains-In a (count_from 0 (length (trimmed_of named).names)) (Contains-count_from 0 (length (trimmed_of named).names) a (omega arith) (omega arith)))
      (by-covered (unnamed (trimmed_of named)) a b m t.1 (covers-test (unnamed (trimmed_of named)) b a two)))
]
