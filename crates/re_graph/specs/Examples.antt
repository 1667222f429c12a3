-- A worked problem that no number of rounds solves, and a graph that shows it.
use Rattle.std.specs.Prelude.{ℕ, List, [], ◌∷◌}
use Rattle.re_cover.specs.Graphs.{PortGraph}
use Rattle.re_graph.specs.Solving.{IsCover}
use Rattle.re_laws.specs.Algorithms.{Solvable}
use Rattle.re_problem.specs.Problems.{Problem}

-- maximal independent sets in degree 3: a node of the set has M, which is 0, at all edges; each other node has P, which is 2, at one edge, by which
-- it points to one of the set, and O, which is 1, at the others
abbrev pub independent_set : Problem
independent_set = record {
  labels = 3;
  active = record { degree = 3; configs = (0 ∷ 0 ∷ 0 ∷ []) ∷ (1 ∷ 1 ∷ 2 ∷ []) ∷ [] };
  passive = record { degree = 2; configs = (0 ∷ 1 ∷ []) ∷ (0 ∷ 2 ∷ []) ∷ (1 ∷ 1 ∷ []) ∷ [] };
}

-- two nodes with an edge between them, each with an edge that leads back to it
abbrev pub two_loops : PortGraph
two_loops = record {
  active_degree = 3;
  passive_degree = 2;
  nodes = 2;
  passive = (record { node = 0; port = 1 } ∷ record { node = 0; port = 2 } ∷ []) ∷ (record { node = 0; port = 3 } ∷ record { node = 1; port = 1 } ∷ [])
      ∷ (record { node = 1; port = 2 } ∷ record { node = 1; port = 3 } ∷ []) ∷ [];
}

-- there is no independent set on it that can't be larger, and so no number of rounds finds one
abbrev pub IndependentSetLaw : Type 0
IndependentSetLaw = IsCover independent_set two_loops × ((T : ℕ) → Solvable independent_set T → ⊥)
