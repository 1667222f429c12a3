-- More rounds do no harm.
use Rattle.std.proofs.Common.{◌≡◌, ℕ, suc, ◌<◌, List, [], refl, sym, ◌∙◌, arith, one-add}
use Rattle.std.specs.Prelude.{Some}
use Rattle.re_given.proofs.Relabelled.{backs-cut}
use Rattle.re_given.proofs.Fitting.{FitsAround-cut}
use Rattle.re_given.proofs.GivenTables.{SolvableGiven-by}
use Rattle.re_given.proofs.KnownViews.{known-cut, known-known}
use Rattle.re_given.specs.Given.{SolvableGiven, SolvesGivenBy, answer_known, around_known}
use Rattle.re_given.specs.InputViews.{InputView, known}
use Rattle.re_given.specs.Inputs.{IsInput}
use Rattle.re_laws.proofs.Ports.{map-count}
use Rattle.re_laws.specs.Algorithms.{at_port}
use Rattle.re_problem.specs.Problems.{Problem}
use Rattle.re_laws.proofs.ViewLaws.{IsChild, IsTree-cut, child_of, shift-cut}
use Rattle.re_laws.specs.Trees.{Child, IsView, backs, child_at, cut, shift}

pub around-cut : (d e T : ℕ) (f : InputView → List ℕ) (v : InputView) → IsView d e (suc (suc (suc T))) v → around_known d (suc T) (λ k. f (known T k)) v ≡ around_known d T f (cut (suc (suc T)) v)
around-cut d e T f v is = map-count (λ port. at_port (f (known T (known (suc T) (shift (suc (suc T)) v port)))) (at_port (backs v) port)) (λ port. at_port (f (known T (shift (suc T) (cut (suc (suc T)) v) port))) (at_port (backs (cut (suc (suc T)) v)) port)) 1 d (λ k l. rw one-add (each k l (child_of d e (suc (suc T)) d v is k l)))
  where
    each : (k : ℕ) → k < d → (c : Child ℕ) × (child_at k v ≡ Some c) × IsChild e d (suc (suc T)) c → at_port (f (known T (known (suc T) (shift (suc (suc T)) v (suc k))))) (at_port (backs v) (suc k)) ≡ at_port (f (known T (shift (suc T) (cut (suc (suc T)) v) (suc k)))) (at_port (backs (cut (suc (suc T)) v)) (suc k))
    each k l (c, at, child) =
        let u : InputView = shift (suc (suc T)) v (suc k) in
        let same : known T (known (suc T) u) ≡ known T (cut (suc T) u) = known-known T (suc T) u (omega arith) ∙ sym (known-cut T (suc T) u (omega arith)) in
        rw (backs-cut (suc T) v, shift-cut (suc (suc T)) (suc T) v (suc k) c (omega arith) at, same) refl

pub SolvesGivenBy-more : (problem input : Problem) (T : ℕ) (f : InputView → List ℕ) → SolvesGivenBy problem input T f → SolvesGivenBy problem input (suc T) (λ k. f (known T k))
SolvesGivenBy-more problem input T f solves = record {
  active = λ v is fits.
      let same : known T (known (suc T) v) ≡ known T (cut (suc T) v) = known-known T (suc T) v (omega arith) ∙ sym (known-cut T (suc T) v (omega arith)) in
      rw same (solves.active (cut (suc T) v) (IsTree-cut problem.active.degree problem.passive.degree (suc (suc T)) (suc T) problem.active.degree v is (omega arith)) (FitsAround-cut input.active input.passive [] (suc T) v fits));
  passive = λ v is fits.
      rw (around-cut problem.passive.degree problem.active.degree T f v is) (solves.passive (cut (suc (suc T)) v) (IsTree-cut problem.passive.degree problem.active.degree (suc (suc (suc T))) (suc (suc T)) problem.passive.degree v is (omega arith)) (FitsAround-cut input.passive input.active [] (suc (suc T)) v fits));
}

pub SolvableGiven-more : (problem input : Problem) (T : ℕ) → IsInput problem input → SolvableGiven problem input T → SolvableGiven problem input (suc T)
SolvableGiven-more problem input T is (table, solves) =
    SolvableGiven-by problem input (suc T) (λ k. answer_known table (known T k)) is (SolvesGivenBy-more problem input T (answer_known table) solves.solves)
