-- Local algorithms: active nodes have identifiers, all different, and know those of the nodes near them.
use Rattle.re_layers.specs.Networks.{AreDifferent}
use Rattle.std.specs.Prelude.{ℕ, suc, ◌*◌, ◌/◌, List, [], ◌∷◌, ◌++◌, map, replicate}
use Rattle.re_labels.specs.Orders.{multisets}
use Rattle.re_given.specs.Given.{around_known}
use Rattle.re_local.specs.Identifiers.{id_labels}
use Rattle.re_given.specs.InputViews.{Fits, InputView, known}
use Rattle.re_labels.specs.Lists.{count_from}
use Rattle.re_problem.specs.Problems.{Problem}
use Rattle.re_labels.specs.Constraints.{Has}
use Rattle.re_laws.specs.Trees.{IsView, end, leaf, more}

-- for each active node that these children of an active node show, and those of a passive node, the input label of the edge to it; one of
-- which only an edge is shown has its label there
abbrev mutual
  pub behind_active : InputView → List ℕ
  behind_active leaf = []
  behind_active end = []
  behind_active (more back label branch rest) = behind_passive branch ++ behind_active rest

  pub behind_passive : InputView → List ℕ
  behind_passive leaf = []
  behind_passive end = []
  behind_passive (more back label branch rest) = (label ∷ behind_active branch) ++ behind_passive rest

-- for each active node that the view of an active node shows, an input label of it, its own first; the view of a passive node shows those
-- behind its edges
abbrev pub shown : InputView → List ℕ
shown leaf = []
shown end = []
shown (more back label branch rest) = label ∷ behind_active (more back label branch rest)

-- around each node stand labels that the problem allows, wherever the input labels fit and the active nodes that are shown all have
-- different identifiers, where this is the identifier that goes with an input label
pub record SolvesApart (problem input : Problem) (id : ℕ → ℕ) (T : ℕ) (algorithm : InputView → List ℕ) : Type 0 where
  pub active : (v : InputView) → IsView problem.active.degree problem.passive.degree (suc T) v → Fits input.active input.passive v →
      AreDifferent (map id (shown v)) → Has problem.active (algorithm (known T v))
  pub passive : (v : InputView) → IsView problem.passive.degree problem.active.degree (suc (suc T)) v → Fits input.passive input.active v →
      AreDifferent (map id (behind_passive v)) → Has problem.passive (around_known problem.passive.degree T algorithm v)

-- each active node has an identifier below N, which stands on all its edges, and nothing is said of who is beside whom
abbrev pub identified : ℕ → ℕ → ℕ → Problem
identified a p N = record {
  labels = N;
  active = record { degree = a; configs = map (replicate a) (count_from 0 N) };
  passive = record { degree = p; configs = multisets p 0 N };
}

-- each active node has an identifier below N, whose labels stand on its edges in any order
abbrev pub labelled : ℕ → ℕ → ℕ → Problem
labelled a p N = record {
  labels = a * N;
  active = record { degree = a; configs = map (id_labels a) (count_from 0 N) };
  passive = record { degree = p; configs = multisets p 0 (a * N) };
}

-- some local algorithm of T rounds, a function of the identifiers and port numbers that a node knows, solves the problem
abbrev pub SolvableLocal : Problem → ℕ → ℕ → Type 0
SolvableLocal problem N T =
    (algorithm : InputView → List ℕ) × SolvesApart problem (identified problem.active.degree problem.passive.degree N) (λ x. x) T algorithm

-- also where nodes know, of each edge, which of its labels the identifier has there
abbrev pub SolvableLabelled : Problem → ℕ → ℕ → Type 0
SolvableLabelled problem N T =
    (algorithm : InputView → List ℕ)
    × SolvesApart problem (labelled problem.active.degree problem.passive.degree N) (λ label. label / problem.active.degree) T algorithm
