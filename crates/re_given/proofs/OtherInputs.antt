-- What is solved given a relaxation of an input problem is solved given the input problem.
use Rattle.std.proofs.Common.{◌≡◌, ℕ, suc, ◌<◌, Some, List, [], ◌∷◌, map, refl, ◌∙◌, ap, one-add}
use Rattle.std.specs.Prelude.{Contains}
use Rattle.re_labels.proofs.Rearranging.{Rearranged-map, Rearranged-sym}
use Rattle.re_labels.proofs.Sorting.{Rearranged-sorted}
use Rattle.re_labels.specs.Configs.{sorted}
use Rattle.re_given.proofs.GivenTables.{SolvableGiven-by}
use Rattle.re_given.proofs.Relabelled.{IsTree-relabelled, backs-relabelled, relabelled, relabelled-known, relabelled-shift}
use Rattle.re_given.specs.Given.{SolvableGiven, SolvesGivenBy, answer_known, around_known}
use Rattle.re_given.specs.InputViews.{FitsAround, InputView, known}
use Rattle.re_given.specs.Inputs.{IsInput}
use Rattle.re_laws.proofs.Ports.{map-count}
use Rattle.re_laws.specs.Algorithms.{at_port}
use Rattle.re_problem.specs.Problems.{Problem}
use Rattle.re_problem.specs.Steps.{IsRelaxed}
use Rattle.re_labels.proofs.Goodness.{Has-Rearranged}
use Rattle.re_labels.specs.Constraints.{Constraint, Has}
use Rattle.re_laws.proofs.ViewLaws.{IsChild, child_of}
use Rattle.re_laws.specs.Trees.{Child, IsView, backs, child_at, end, leaf, more, shift}

-- the images of the configurations of the first constraint are configurations of the second
abbrev TakesTo : (ℕ → ℕ) → Constraint → Constraint → Type 0
TakesTo image own next = (config : List ℕ) → Contains own.configs config → Has next (map image config)

Has-image : (image : ℕ → ℕ) (own next : Constraint) → TakesTo image own next → (labels : List ℕ) → Has own labels → Has next (map image labels)
Has-image image own next takes labels has = Has-Rearranged next (Rearranged-map image (Rearranged-sym (Rearranged-sorted labels))) (takes (sorted labels) has)

FitsAround-relabelled : (image : ℕ → ℕ) (own other own' other' : Constraint) → TakesTo image own own' → TakesTo image other other' → (seen : List ℕ) (x : InputView) → FitsAround own other seen x → FitsAround own' other' (map image seen) (relabelled image x)
FitsAround-relabelled image own other own' other' takes takes' seen leaf h = tt
FitsAround-relabelled image own other own' other' takes takes' seen end h = Has-image image own own' takes seen h
FitsAround-relabelled image own other own' other' takes takes' seen (more back label branch rest) h =
    (FitsAround-relabelled image other own other' own' takes' takes (label ∷ []) branch h.0, FitsAround-relabelled image own other own' other' takes takes' (label ∷ seen) rest h.1)

module _ (problem input next : Problem) (image : ℕ → ℕ) (T : ℕ) (f : InputView → List ℕ) (relaxed : IsRelaxed input next image) (solves : SolvesGivenBy problem next T f) where
  pub SolvesGivenBy-input : SolvesGivenBy problem input T (λ k. f (relabelled image k))
  SolvesGivenBy-input = record {
    active = λ v is fits.
        rw (relabelled-known image T v) (solves.active (relabelled image v) (IsTree-relabelled image problem.active.degree problem.passive.degree (suc T) problem.active.degree v is)
        (FitsAround-relabelled image input.active input.passive next.active next.passive relaxed.active relaxed.passive [] v fits));
    passive = λ v is fits.
        rw (around_is v is) (solves.passive (relabelled image v) (IsTree-relabelled image problem.passive.degree problem.active.degree (suc (suc T)) problem.passive.degree v is)
        (FitsAround-relabelled image input.passive input.active next.passive next.active relaxed.passive relaxed.active [] v fits));
  }
    where
      around_is : (v : InputView) → IsView problem.passive.degree problem.active.degree (suc (suc T)) v → around_known problem.passive.degree T (λ k. f (relabelled image k)) v ≡ around_known problem.passive.degree T f (relabelled image v)
      around_is v is = map-count (λ port. at_port (f (relabelled image (known T (shift (suc T) v port)))) (at_port (backs v) port)) (λ port. at_port (f (known T (shift (suc T) (relabelled image v) port))) (at_port (backs (relabelled image v)) port)) 1 problem.passive.degree
          (λ k l. rw one-add (each k l (child_of problem.passive.degree problem.active.degree (suc T) problem.passive.degree v is k l)))
        where
          each : (k : ℕ) → k < problem.passive.degree → (c : Child ℕ) × (child_at k v ≡ Some c) × IsChild problem.active.degree problem.passive.degree (suc T) c
              → at_port (f (relabelled image (known T (shift (suc T) v (suc k))))) (at_port (backs v) (suc k)) ≡ at_port (f (known T (shift (suc T) (relabelled image v) (suc k)))) (at_port (backs (relabelled image v)) (suc k))
          each k l (c, at, child) =
              let seen : relabelled image (known T (shift (suc T) v (suc k))) ≡ known T (shift (suc T) (relabelled image v) (suc k)) =
              relabelled-known image T (shift (suc T) v (suc k)) ∙ ap (known T) (relabelled-shift image (suc T) v (suc k) c at) in
              rw (seen, backs-relabelled image v) refl

pub SolvableGiven-input : (problem input next : Problem) (image : ℕ → ℕ) (T : ℕ) → IsInput problem input → IsRelaxed input next image → SolvableGiven problem next T → SolvableGiven problem input T
SolvableGiven-input problem input next image T is relaxed (table, solves) =
    SolvableGiven-by problem input T (λ k. answer_known table (relabelled image k)) is (SolvesGivenBy-input problem input next image T (answer_known table) relaxed solves.solves)
