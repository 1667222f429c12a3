-- Worked problems, which show what inputs are and what they change.
use Rattle.std.specs.Prelude.{ℕ, ◌≤◌, [], ◌∷◌}
use Rattle.re_given.specs.Given.{SolvableGiven}
use Rattle.re_given.specs.Unavoidable.{colouring}
use Rattle.re_laws.specs.Algorithms.{Solvable}
use Rattle.re_problem.specs.Examples.{orientation, relaxed_sinkless}
use Rattle.re_problem.specs.Problems.{Problem}

-- a proper colouring of the edges with 3 colours: each node of degree 3 has all of them, and an edge has one colour at both ends
abbrev pub edge_colouring : Problem
edge_colouring = record {
  labels = 3;
  active = record { degree = 3; configs = (0 ∷ 1 ∷ 2 ∷ []) ∷ [] };
  passive = record { degree = 2; configs = (0 ∷ 0 ∷ []) ∷ (1 ∷ 1 ∷ []) ∷ (2 ∷ 2 ∷ []) ∷ [] };
}

-- where an orientation is given, it is solved in 0 rounds, which it isn't without
abbrev pub OrientationGivenLaw : Type 0
OrientationGivenLaw = SolvableGiven orientation orientation 0 × (Solvable orientation 0 → ⊥)

-- no number of rounds solves the relaxation of sinkless orientation given a proper colouring of the nodes with 2 colours or more
abbrev pub SinklessColouredLaw : Type 0
SinklessColouredLaw = (c T : ℕ) → 2 ≤ c → SolvableGiven relaxed_sinkless (colouring 3 2 c) T → ⊥

-- nor one given a proper colouring of the edges
abbrev pub SinklessEdgeColouredLaw : Type 0
SinklessEdgeColouredLaw = (T : ℕ) → SolvableGiven relaxed_sinkless edge_colouring T → ⊥
