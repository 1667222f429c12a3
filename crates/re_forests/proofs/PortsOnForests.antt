-- What a table on views solves is solved on forests: each node sees the places around it.
use Rattle.std.proofs.Common.{ℕ, suc, ◌+◌, ◌<◌, List, refl, ap, subst, arith}
use Rattle.re_forests.specs.OnForests.{SolvableOnForests, SolvesOn}
use Rattle.re_forests.proofs.LocalViews.{real_same}
use Rattle.re_forests.proofs.Places.{places, real}
use Rattle.re_forests.proofs.PlacesAround.{active_view, labels_around, passive_view}
use Rattle.re_forests.proofs.Views.{view}
use Rattle.re_forests.specs.FromViews.{PortsOnForestsLaw}
use Rattle.re_laws.specs.Algorithms.{Entry, Plain, Solves, answer}
use Rattle.re_layers.specs.Networks.{IsForest, IsLocal, Network}
use Rattle.re_problem.specs.Problems.{IsProblem, Problem}
use Rattle.re_labels.specs.Constraints.{Has}

module _ (problem : Problem) (is : IsProblem problem) (k N : ℕ) (table : List Entry) (solves : Solves problem k table) where
  -- what a node sees without colours
  abbrev seen : ℕ → Network → ℕ → Plain
  seen t G v = view (places {E = Unit {0}} problem.active.degree problem.passive.degree (λ x. tt) G) t (real v)

  abbrev algorithm : Network → ℕ → List ℕ
  algorithm G v = answer table (seen k G v)

  local : IsLocal (k + 1) algorithm
  local G H v same =
      ap (answer table)
      (real_same {E = Unit {0}} problem.active.degree problem.passive.degree 0 (λ F x. tt) G H (λ T v l e. refl) (λ T v i l e past. refl) (λ u i j e f. refl) k (k + 1) v (omega arith) same)

  solved : (G : Network) → IsForest problem.active.degree problem.passive.degree N G → SolvesOn problem G (algorithm G)
  solved G forest =
      let some_active : 0 < problem.active.degree = let two = is.active.least in omega arith in
      let some_passive : 0 < problem.passive.degree = let two = is.passive.least in omega arith in
      record {
        active = λ v kind full. solves.solves.active (seen k G v) (active_view problem.active.degree problem.passive.degree N (λ x. tt) G forest some_active some_passive k v kind);
        passive = λ w kind full.
            subst (Has problem.passive) (labels_around problem.active.degree problem.passive.degree N (λ x. tt) G forest some_active some_passive k (answer table) w kind full)
            (solves.solves.passive (seen (suc k) G w) (passive_view problem.active.degree problem.passive.degree N (λ x. tt) G forest some_active some_passive (suc k) w kind));
      }

  pub on_forests : SolvableOnForests problem N (k + 1)
  on_forests = (algorithm, local, solved)

pub ports_on_forests : PortsOnForestsLaw
ports_on_forests problem is k N (table, solves) = on_forests problem is k N table solves
