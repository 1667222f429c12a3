-- More rounds do no harm to local algorithms.
use Rattle.std.proofs.Common.{◌≡◌, ℕ, zero, suc, ◌+◌, List, [], sym, ◌∙◌, subst, arith}
use Rattle.re_given.proofs.Fitting.{FitsAround-cut}
use Rattle.re_given.proofs.KnownViews.{known-cut, known-known}
use Rattle.re_given.proofs.MoreGiven.{around-cut}
use Rattle.re_given.specs.InputViews.{InputView, known}
use Rattle.re_local.proofs.FewerRounds.{behind_passive-cut, part_different, part_map, shown-cut}
use Rattle.re_local.specs.LocalAlgorithms.{SolvableLocal, SolvesApart}
use Rattle.re_problem.specs.Problems.{Problem}
use Rattle.re_laws.proofs.ViewLaws.{IsTree-cut}
use Rattle.re_laws.specs.Trees.{cut}

SolvesApart-more : (problem input : Problem) (id : ℕ → ℕ) (T : ℕ) (f : InputView → List ℕ) → SolvesApart problem input id T f
    → SolvesApart problem input id (suc T) (λ k. f (known T k))
SolvesApart-more problem input id T f solves = record {
  active = λ v is fits apart.
      let same : known T (known (suc T) v) ≡ known T (cut (suc T) v) = known-known T (suc T) v (omega arith) ∙ sym (known-cut T (suc T) v (omega arith)) in
      rw same (solves.active (cut (suc T) v)
      (IsTree-cut problem.active.degree problem.passive.degree (suc (suc T)) (suc T) problem.active.degree v is (omega arith))
      (FitsAround-cut input.active input.passive [] (suc T) v fits) (part_different (part_map id (shown-cut (suc T) v)) apart));
  passive = λ v is fits apart.
      rw (around-cut problem.passive.degree problem.active.degree T f v is) (solves.passive (cut (suc (suc T)) v)
      (IsTree-cut problem.passive.degree problem.active.degree (suc (suc (suc T))) (suc (suc T)) problem.passive.degree v is (omega arith))
      (FitsAround-cut input.passive input.active [] (suc (suc T)) v fits) (part_different (part_map id (behind_passive-cut (suc (suc T)) v)) apart));
}

SolvableLocal-next : (problem : Problem) (N T : ℕ) → SolvableLocal problem N T → SolvableLocal problem N (suc T)
SolvableLocal-next problem N T (algorithm, solves) = (λ k. algorithm (known T k), SolvesApart-more problem _ (λ x. x) T algorithm solves)

pub SolvableLocal-more : (problem : Problem) (N T : ℕ) → SolvableLocal problem N T → SolvableLocal problem N (T + 1)
SolvableLocal-more problem N T solvable =
    let next : suc T ≡ T + 1 = omega arith in
    subst (SolvableLocal problem N) next (SolvableLocal-next problem N T solvable)

-- the same for any number of rounds more
pub SolvableLocal-later : (problem : Problem) (N more T : ℕ) → SolvableLocal problem N T → SolvableLocal problem N (more + T)
SolvableLocal-later problem N zero T solvable = subst (SolvableLocal problem N) (omega arith) solvable
SolvableLocal-later problem N (suc more) T solvable =
    let next : suc (more + T) ≡ suc more + T = omega arith in
    subst (SolvableLocal problem N) next (SolvableLocal-next problem N (more + T) (SolvableLocal-later problem N more T solvable))
