-- What is written of a problem is named.
use Rattle.std.proofs.Common.{◌≡◌, ℕ, zero, suc, ◌<◌, ◌+◌, ◌-◌, Bool, List, [], ◌∷◌, length, filter, Contains, None, Some, refl, sym, ap, ◌∙◌, subst, arith}
use Rattle.std.specs.List.{AllByRecursion}
use Rattle.re_labels.proofs.Membership.{AllByRecursion-contains, AllByRecursion-from_contains, Contains-filter_cases, Contains-flat_map_cases, Contains-map_cases, count_from_range, length-map'}
use Rattle.re_labels.specs.Lists.{count_from}
use Rattle.re_labels.specs.Sets.{IsLabelSet}
use Rattle.re_changes.specs.Classes.{are_equal, class_of, is_next, least_labels}
use Rattle.re_changes.specs.Diagrams.{classes_of, edges_by, edges_from, edges_of}
use Rattle.re_texts.specs.SetTexts.{least_at}
use Rattle.re_labels.proofs.MaxSets.{max_sets-from, maximal}
use Rattle.re_labels.specs.Constraints.{Constraint}
use Rattle.re_labels.specs.Strength.{is_at_least_as_strong}
use Rattle.std.specs.Prelude.{slice_index}
use Rattle.re_problem.specs.NamedProblems.{NamedProblem, unnamed}
use Rattle.re_step.specs.Derivations.{named_derived, step_limit}
use Rattle.re_step.specs.declared.derivation.StepLimit.{StepLimit}
use Rattle.re_frame.specs.Outcomes.{Outcome, done, limit}
use Rattle.re_words.specs.Working.{derived_text, stepped}
use Rattle.re_limits.specs.StepLimits.{limit_line, or_limit}
use Rattle.re_labels.specs.GoodRows.{max_rows, max_sets}

-- ---- rows and sets
set_below : (K : Constraint) (n m : ℕ) → n ≡ m → (row : List (List ℕ)) → Contains (max_rows K n) row → (set : List ℕ) → Contains row set → AllByRecursion (λ label. label < m) set
set_below K n m e row held set there = subst (λ k. AllByRecursion (λ label. label < k) set) e
    (AllByRecursion-contains (λ s. IsLabelSet n s × (0 < length s)) row set (maximal K n row held).is_row.sets there).0.1

pub rows_below : (K : Constraint) (n m : ℕ) (rows : List (List (List ℕ))) → n ≡ m → rows ≡ max_rows K n → AllByRecursion (AllByRecursion (AllByRecursion (λ label. label < m))) rows
rows_below K n m rows e r = subst (AllByRecursion (AllByRecursion (AllByRecursion (λ label. label < m)))) (sym r)
    (AllByRecursion-from_contains (AllByRecursion (AllByRecursion (λ label. label < m))) (max_rows K n) (λ row held. AllByRecursion-from_contains (AllByRecursion (λ label. label < m)) row (set_below K n m e row held)))

pub sets_below : (K : Constraint) (n m : ℕ) (sets : List (List ℕ)) → n ≡ m → sets ≡ max_sets K n → AllByRecursion (AllByRecursion (λ label. label < m)) sets
sets_below K n m sets e r = subst (AllByRecursion (AllByRecursion (λ label. label < m))) (sym r)
    (AllByRecursion-from_contains (AllByRecursion (λ label. label < m)) (max_sets K n) (λ set held. let f = max_sets-from K n set held in set_below K n m e f.0 f.1 set f.2))

-- ---- diagrams
class_below : (strong : ℕ → ℕ → Bool) (n a : ℕ) → AllByRecursion (λ label. label < n) (class_of strong n a)
class_below strong n a = AllByRecursion-from_contains (λ label. label < n) (class_of strong n a) (λ x held.
    let r = count_from_range 0 n x (Contains-filter_cases (are_equal strong a) (count_from 0 n) x held).0 in omega (arith, r.1))

pub classes_below : (K : Constraint) (n m : ℕ) (classes : List (List ℕ)) → n ≡ m → classes ≡ classes_of K n → AllByRecursion (AllByRecursion (λ label. label < m)) classes
classes_below K n m classes e c = subst (AllByRecursion (AllByRecursion (λ label. label < m))) (sym c) (AllByRecursion-from_contains (AllByRecursion (λ label. label < m)) (classes_of K n) (λ class held.
    let f = Contains-map_cases (class_of (is_at_least_as_strong K) n) (least_labels (is_at_least_as_strong K) n) class held in
    subst (λ k. AllByRecursion (λ label. label < k) class) e (subst (AllByRecursion (λ label. label < n)) f.2 (class_below (is_at_least_as_strong K) n f.0))))

-- the places of an edge are those of classes
places_in : (strong : ℕ → ℕ → Bool) (n : ℕ) (edge : ℕ × ℕ) → Contains (edges_by strong n) edge → (edge.0 < length (least_labels strong n)) × (edge.1 < length (least_labels strong n))
places_in strong n edge held =
    let least = least_labels strong n in
    let f = Contains-flat_map_cases (edges_from strong n least) (count_from 0 (length least)) edge held in
    let g = Contains-map_cases (λ y. (f.0, y)) (filter (λ y. is_next strong n (slice_index least y) (slice_index least f.0)) (count_from 0 (length least))) edge f.2 in
    let weak = (count_from_range 0 (length least) f.0 f.1).1 in
    let high = (count_from_range 0 (length least) g.0 (Contains-filter_cases (λ y. is_next strong n (slice_index least y) (slice_index least f.0)) (count_from 0 (length least)) g.0 g.1).0).1 in
    let first : f.0 ≡ edge.0 = ap (λ (p : ℕ × ℕ). p.0) g.2 in
    let second : g.0 ≡ edge.1 = ap (λ (p : ℕ × ℕ). p.1) g.2 in
    (omega (arith, weak, first), omega (arith, high, second))

length-classes_of : (K : Constraint) (n : ℕ) → length (classes_of K n) ≡ length (least_labels (is_at_least_as_strong K) n)
length-classes_of K n = length-map' (class_of (is_at_least_as_strong K) n) (least_labels (is_at_least_as_strong K) n)

pub weak_in : (K : Constraint) (n : ℕ) (classes : List (List ℕ)) (edges : List (ℕ × ℕ)) → classes ≡ classes_of K n → edges ≡ edges_of K n → AllByRecursion (λ (edge : ℕ × ℕ). edge.0 < length classes) edges
weak_in K n classes edges c e = subst (AllByRecursion (λ (edge : ℕ × ℕ). edge.0 < length classes)) (sym e) (AllByRecursion-from_contains (λ (edge : ℕ × ℕ). edge.0 < length classes) (edges_of K n) (λ edge held.
    let p = (places_in (is_at_least_as_strong K) n edge held).0 in let l = length-classes_of K n in let m = ap length c in omega (arith, p, l, m)))

pub strong_in : (K : Constraint) (n : ℕ) (classes : List (List ℕ)) (edges : List (ℕ × ℕ)) → classes ≡ classes_of K n → edges ≡ edges_of K n → AllByRecursion (λ (edge : ℕ × ℕ). edge.1 < length classes) edges
strong_in K n classes edges c e = subst (AllByRecursion (λ (edge : ℕ × ℕ). edge.1 < length classes)) (sym e) (AllByRecursion-from_contains (λ (edge : ℕ × ℕ). edge.1 < length classes) (edges_of K n) (λ edge held.
    let p = (places_in (is_at_least_as_strong K) n edge held).1 in let l = length-classes_of K n in let m = ap length c in omega (arith, p, l, m)))

-- the least label of a class is below n, and so is 0 where there is a class
least_below : (n m : ℕ) (classes : List (List ℕ)) (place : ℕ) → 0 < m → AllByRecursion (AllByRecursion (λ label. label < m)) classes → place < length classes → least_at classes place < m
least_below n m [] place p h l = absurd (omega arith)
least_below n m ([] ∷ classes) zero p h l = p
least_below n m ((x ∷ class) ∷ classes) zero p h l = h.0.0
least_below n m (class ∷ classes) (suc place) p h l = least_below n m classes place p h.1 (omega arith)

some_label : (K : Constraint) (n place : ℕ) → place < length (classes_of K n) → 0 < n
some_label K zero place l = absurd (omega (arith, l))
some_label K (suc n) place l = omega arith

pub weak_named : (K : Constraint) (n m : ℕ) (classes : List (List ℕ)) (edges : List (ℕ × ℕ)) → n ≡ m → classes ≡ classes_of K n → edges ≡ edges_of K n → AllByRecursion (λ (edge : ℕ × ℕ). least_at classes edge.0 < m) edges
weak_named K n m classes edges s c e = subst (AllByRecursion (λ (edge : ℕ × ℕ). least_at classes edge.0 < m)) (sym e) (AllByRecursion-from_contains (λ (edge : ℕ × ℕ). least_at classes edge.0 < m) (edges_of K n) (λ edge held.
    let p = AllByRecursion-contains (λ (edge : ℕ × ℕ). edge.0 < length classes) (edges_of K n) edge (weak_in K n classes (edges_of K n) c refl) held in
    let some = some_label K n edge.0 (subst (λ w. edge.0 < length w) c p) in
    least_below n m classes edge.0 (omega (arith, some, s)) (classes_below K n m classes s c) p))

pub strong_named : (K : Constraint) (n m : ℕ) (classes : List (List ℕ)) (edges : List (ℕ × ℕ)) → n ≡ m → classes ≡ classes_of K n → edges ≡ edges_of K n → AllByRecursion (λ (edge : ℕ × ℕ). least_at classes edge.1 < m) edges
strong_named K n m classes edges s c e = subst (AllByRecursion (λ (edge : ℕ × ℕ). least_at classes edge.1 < m)) (sym e) (AllByRecursion-from_contains (λ (edge : ℕ × ℕ). least_at classes edge.1 < m) (edges_of K n) (λ edge held.
    let p = AllByRecursion-contains (λ (edge : ℕ × ℕ). edge.1 < length classes) (edges_of K n) edge (strong_in K n classes (edges_of K n) c refl) held in
    let some = some_label K n edge.1 (subst (λ w. edge.1 < length w) c p) in
    least_below n m classes edge.1 (omega (arith, some, s)) (classes_below K n m classes s c) p))

-- ---- steps
pub limit_there : (number further : ℕ) (problem : NamedProblem) (passed : StepLimit) (outcome : Outcome) → step_limit (unnamed problem) ≡ Some passed → outcome ≡ limit (limit_line number passed) → outcome ≡ stepped number further problem
unfolding stepped
limit_there number zero problem passed outcome l e = e ∙ ap (λ o. or_limit number o (done (derived_text problem))) (sym l)
limit_there number (suc further) problem passed outcome l e = e ∙ ap (λ o. or_limit number o (stepped (number + 1) further (named_derived (unnamed problem)))) (sym l)

pub one_more : (number further : ℕ) (problem next : NamedProblem) (outcome : Outcome) → (further ≡ 0 → ⊥) → step_limit (unnamed problem) ≡ None → next ≡ named_derived (unnamed problem) → outcome ≡ stepped (number + 1) (further - 1) next
    → outcome ≡ stepped number further problem
unfolding stepped
one_more number zero problem next outcome some l n e = absurd (some refl)
one_more number (suc further) problem next outcome some l n e =
    let less : suc further - 1 ≡ further = omega arith in
    e ∙ ap (λ f. stepped (number + 1) f next) less ∙ ap (stepped (number + 1) further) n ∙ ap (λ o. or_limit number o (stepped (number + 1) further (named_derived (unnamed problem)))) (sym l)
