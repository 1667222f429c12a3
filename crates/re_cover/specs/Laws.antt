-- What graphs tell of algorithms.
use Rattle.std.specs.Prelude.{◌≡◌, ℕ, suc, ◌<◌, List, length, map}
use Rattle.re_cover.specs.declared.ends.GraphEnd.{GraphEnd}
use Rattle.re_cover.specs.Graphs.{IsActiveEnd, IsGraph, IsGraphOf, IsPassiveEnd, IsSolution, PortGraph, active_end, passive_end}
use Rattle.re_cover.specs.Unfolded.{active_view, passive_view}
use Rattle.re_labels.specs.Lists.{count_from}
use Rattle.re_laws.specs.Algorithms.{Plain, Solvable, SolvesBy, back_at}
use Rattle.re_problem.specs.Problems.{Problem}
use Rattle.re_laws.specs.Trees.{IsView, shift}

-- over each edge and back one comes to where one was
abbrev pub EdgeLaw : Type 0
EdgeLaw = (graph : PortGraph) → IsGraph graph →
    ((here : GraphEnd) → IsActiveEnd graph here → IsPassiveEnd graph (passive_end graph here) × (active_end graph (passive_end graph here) ≡ here))
    × ((here : GraphEnd) → IsPassiveEnd graph here → IsActiveEnd graph (active_end graph here) × (passive_end graph (active_end graph here) ≡ here))

-- the views of nodes are views of the tree
abbrev pub ViewsLaw : Type 0
ViewsLaw = (graph : PortGraph) (radius : ℕ) → IsGraph graph →
    ((node : ℕ) → node < graph.nodes → IsView graph.active_degree graph.passive_degree radius (active_view graph radius node))
    × ((node : ℕ) → node < length graph.passive → IsView graph.passive_degree graph.active_degree radius (passive_view graph radius node))

-- from the view of a passive node one sees at each port the view of the active node there, and the port by which the edge leads to it
abbrev pub SeenLaw : Type 0
SeenLaw = (graph : PortGraph) (radius : ℕ) (here : GraphEnd) → IsGraph graph → IsPassiveEnd graph here →
    (shift radius (passive_view graph (suc radius) here.node) here.port ≡ active_view graph radius (active_end graph here).node)
    × (back_at (passive_view graph (suc radius) here.node) here.port ≡ (active_end graph here).port)

-- what the algorithm outputs at the active nodes
abbrev pub outputs : PortGraph → ℕ → (Plain → List ℕ) → List (List ℕ)
outputs graph T algorithm = map (λ node. algorithm (active_view graph T node)) (count_from 0 graph.nodes)

-- what an algorithm that solves a problem outputs on a graph is a solution
abbrev pub OutputsLaw : Type 0
OutputsLaw = (problem : Problem) (graph : PortGraph) (T : ℕ) (algorithm : Plain → List ℕ) → IsGraphOf problem graph →
    SolvesBy problem T algorithm → IsSolution problem graph (outputs graph T algorithm)

-- where a problem is solvable in some number of rounds, each graph of its degrees has a solution
abbrev pub GraphLaw : Type 0
GraphLaw = (problem : Problem) (graph : PortGraph) (T : ℕ) → IsGraphOf problem graph → Solvable problem T →
    (labels : List (List ℕ)) × IsSolution problem graph labels

-- where some graph has none, no number of rounds solves the problem
abbrev pub NoSolutionLaw : Type 0
NoSolutionLaw = (problem : Problem) (graph : PortGraph) (T : ℕ) → IsGraphOf problem graph →
    ((labels : List (List ℕ)) → IsSolution problem graph labels → ⊥) → Solvable problem T → ⊥
