-- A function on what is known that solves a problem gives a table that solves it.
use Rattle.std.proofs.Common.{◌≡◌, ℕ, zero, suc, ◌+◌, ◌<◌, Bool, true, false, List, [], ◌∷◌, map, refl, sym, ap, arith, one-add, eqb, ◌&&◌}
use Rattle.std.specs.Prelude.{Contains, if◌then◌else◌}
use Rattle.std.proofs.lemmas.Bool.Decides.{nat_tests}
use Rattle.re_given.proofs.AllInputViews.{Contains-fitting, fitting_views}
use Rattle.re_given.proofs.Fitting.{FitsAround-shift}
use Rattle.re_given.specs.Given.{KnownEntry, SolvableGiven, SolvesGivenBy, answer_known, around_known, same_input_view}
use Rattle.re_given.specs.InputViews.{Fits, InputView, known}
use Rattle.re_given.specs.Inputs.{IsInput}
use Rattle.re_labels.proofs.Membership.{Contains-map}
use Rattle.re_labels.proofs.Tests.{and-true}
use Rattle.re_laws.proofs.Ports.{map-count}
use Rattle.re_laws.specs.Algorithms.{at_port}
use Rattle.re_problem.specs.Problems.{Problem}
use Rattle.re_labels.specs.Constraints.{Constraint}
use Rattle.re_laws.proofs.ViewLaws.{IsView-shift, child_of}
use Rattle.re_laws.specs.Trees.{IsView, backs, end, leaf, more, shift}

pub same_input_view-refl : (v : InputView) → same_input_view v v ≡ true
same_input_view-refl leaf = refl
same_input_view-refl end = refl
same_input_view-refl (more back label branch rest) = rw (same_input_view-refl branch, same_input_view-refl rest) (grind (arith, nat_tests))

pub same_input_view-same : (v w : InputView) → same_input_view v w ≡ true → v ≡ w
same_input_view-same leaf leaf h = refl
same_input_view-same end end h = refl
same_input_view-same (more back label branch rest) (more back' label' branch' rest') h =
    let all = and-true (eqb back back' && eqb label label' && same_input_view branch branch') (same_input_view rest rest') h in
    let three = and-true (eqb back back' && eqb label label') (same_input_view branch branch') all.0 in
    let two = and-true (eqb back back') (eqb label label') three.0 in
    let first : eqb back back' ≡ true = two.0 in
    let second : eqb label label' ≡ true = two.1 in
    let at_back : back ≡ back' = grind (arith, nat_tests) in
    let at_label : label ≡ label' = grind (arith, nat_tests) in
    let at_branch : branch ≡ branch' = same_input_view-same branch branch' three.1 in
    let at_rest : rest ≡ rest' = same_input_view-same rest rest' all.1 in
    rw (at_back, at_label, at_branch, at_rest) refl
same_input_view-same leaf end h = absurd (cc)
same_input_view-same leaf (more back' label' branch' rest') h = absurd (cc)
same_input_view-same end leaf h = absurd (cc)
same_input_view-same end (more back' label' branch' rest') h = absurd (cc)
same_input_view-same (more back label branch rest) leaf h = absurd (cc)
same_input_view-same (more back label branch rest) end h = absurd (cc)

-- the table of a function over a list of what may be known
abbrev pub table_of : (InputView → List ℕ) → List InputView → List KnownEntry
table_of f [] = []
table_of f (k ∷ views) = record { view = k; labels = f k } ∷ table_of f views

pub answer-table_of : (f : InputView → List ℕ) (views : List InputView) (v : InputView) → Contains views v → answer_known (table_of f views) v ≡ f v
answer-table_of f [] v (k, l, e) = absurd (omega arith)
answer-table_of f (w ∷ views) v (zero, l, e) = rw (e, same_input_view-refl v) refl
answer-table_of f (w ∷ views) v (suc k, l, e) = go (same_input_view w v) refl (answer-table_of f views v (k, omega arith, e))
  where
    go : (b : Bool) → same_input_view w v ≡ b → answer_known (table_of f views) v ≡ f v → (if b then f w else answer_known (table_of f views) v) ≡ f v
    go true same rest = ap f (same_input_view-same w v same)
    go false same rest = rest

pub views-table_of : (f : InputView → List ℕ) (views : List InputView) → map (λ (entry : KnownEntry). entry.view) (table_of f views) ≡ views
views-table_of f [] = refl
views-table_of f (v ∷ views) = ap (◌∷◌ v) (views-table_of f views)

-- only what an algorithm gives where something may be known counts
pub around-same : (own other : Constraint) (d e T : ℕ) (f g : InputView → List ℕ) → ((v : InputView) → IsView e d (suc T) v → Fits other own v → f (known T v) ≡ g (known T v))
    → (v : InputView) → IsView d e (suc (suc T)) v → Fits own other v → around_known d T f v ≡ around_known d T g v
around-same own other d e T f g same v is fits = map-count (λ port. at_port (f (known T (shift (suc T) v port))) (at_port (backs v) port)) (λ port. at_port (g (known T (shift (suc T) v port))) (at_port (backs v) port)) 1 d each
  where
    each : (k : ℕ) → k < d → at_port (f (known T (shift (suc T) v (1 + k)))) (at_port (backs v) (1 + k)) ≡ at_port (g (known T (shift (suc T) v (1 + k)))) (at_port (backs v) (1 + k))
    each k l =
        let c = child_of d e (suc T) d v is k l in
        let there : IsView e d (suc T) (shift (suc T) v (suc k)) = IsView-shift d e (suc T) v (suc k) c.0 is (omega arith) (omega arith) c.1 c.2 in
        let fitting : Fits other own (shift (suc T) v (suc k)) = FitsAround-shift own other d e (suc T) v (suc k) c.0 c.1 c.2 fits in
        rw one-add (ap (λ labels. at_port labels (at_port (backs v) (suc k))) (same (shift (suc T) v (suc k)) there fitting))

pub SolvesGivenBy-same : (problem input : Problem) (T : ℕ) (f g : InputView → List ℕ)
    → ((v : InputView) → IsView problem.active.degree problem.passive.degree (suc T) v → Fits input.active input.passive v → f (known T v) ≡ g (known T v))
    → SolvesGivenBy problem input T f → SolvesGivenBy problem input T g
SolvesGivenBy-same problem input T f g same solves = record {
  active = λ v is fits. rw (← same v is fits) (solves.active v is fits);
  passive = λ v is fits. rw (← around-same input.passive input.active problem.passive.degree problem.active.degree T f g same v is fits) (solves.passive v is fits);
}

pub SolvableGiven-by : (problem input : Problem) (T : ℕ) (f : InputView → List ℕ) → IsInput problem input → SolvesGivenBy problem input T f → SolvableGiven problem input T
SolvableGiven-by problem input T f is solves = (
  table_of f views,
  record {
    entries = λ v view fits. rw (views-table_of f views) (listed v view fits);
    solves = SolvesGivenBy-same problem input T f (answer_known (table_of f views)) (λ v view fits. sym (answer-table_of f views (known T v) (listed v view fits))) solves;
  },
)
  where
    views : List InputView
    views = map (known T) (fitting_views input (suc T))

    listed : (v : InputView) → IsView problem.active.degree problem.passive.degree (suc T) v → Fits input.active input.passive v → Contains views (known T v)
    listed v view fits = Contains-map (known T) (fitting_views input (suc T)) v (Contains-fitting input (suc T) v is.is_problem (rw (is.active_degree, is.passive_degree) view) fits)
