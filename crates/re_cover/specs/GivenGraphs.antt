-- Graphs on which a solution of an input problem is given.
use Rattle.std.specs.Prelude.{◌≡◌, ℕ, zero, suc, pred, ◌<◌, List, [], ◌∷◌, length, map}
use Rattle.re_cover.specs.declared.ends.GraphEnd.{GraphEnd}
use Rattle.re_cover.specs.Graphs.{IsGraph, IsGraphOf, IsPassiveEnd, IsSolution, PortGraph, active_end, label_at, passive_end}
use Rattle.re_given.specs.Given.{SolvableGiven, SolvesGivenBy}
use Rattle.re_given.specs.InputViews.{Fits, InputView, known}
use Rattle.re_given.specs.Inputs.{IsInput}
use Rattle.re_labels.specs.Lists.{count_from}
use Rattle.re_laws.specs.Algorithms.{at_port}
use Rattle.re_problem.specs.Problems.{Problem}
use Rattle.re_laws.specs.Trees.{Child, IsView, Tree, backs, end, leaf, more, others, shift}

-- the tree of these children
abbrev pub in_row : {E : Type 0} → List (Child E) → Tree E
in_row [] = end
in_row (child ∷ children) = more child.back child.payload child.branch (in_row children)

-- the view of a radius of a node of degree d with input labels, where `over` leads over an edge from an end on its side to the one on the other side,
-- whose nodes have degree e, `back` leads back, and an end on its side has its label by `own`, one on the other side by `other`
abbrev pub labelled : (GraphEnd → GraphEnd) → (GraphEnd → GraphEnd) → (GraphEnd → ℕ) → (GraphEnd → ℕ) → ℕ → ℕ → ℕ → ℕ → InputView
labelled over back own other d e zero node = leaf
labelled over back own other d e (suc t) node =
    in_row (map (λ port. record {
      back = (over (record { node = node; port = port })).port;
      payload = own (record { node = node; port = port });
      branch = others (pred (over (record { node = node; port = port })).port) (labelled back over other own e d t (over (record { node = node; port = port })).node);
    }) (count_from 1 d))

-- the view of an active node where these input labels are given, and of a passive one
abbrev pub active_input : PortGraph → List (List ℕ) → ℕ → ℕ → InputView
active_input graph inputs radius node =
    labelled (passive_end graph) (active_end graph) (label_at inputs) (λ here. label_at inputs (active_end graph here)) graph.active_degree graph.passive_degree radius node

abbrev pub passive_input : PortGraph → List (List ℕ) → ℕ → ℕ → InputView
passive_input graph inputs radius node =
    labelled (active_end graph) (passive_end graph) (λ here. label_at inputs (active_end graph here)) (label_at inputs) graph.passive_degree graph.active_degree radius node

-- the views of nodes are views of the tree, and the input labels fit
abbrev pub GivenViewsLaw : Type 0
GivenViewsLaw = (problem input : Problem) (graph : PortGraph) (inputs : List (List ℕ)) (radius : ℕ) → IsGraphOf problem graph → IsInput problem input → IsSolution input graph inputs →
    ((node : ℕ) → node < graph.nodes → IsView graph.active_degree graph.passive_degree radius (active_input graph inputs radius node) × Fits input.active input.passive (active_input graph inputs radius node))
    × ((node : ℕ) → node < length graph.passive → IsView graph.passive_degree graph.active_degree radius (passive_input graph inputs radius node) × Fits input.passive input.active (passive_input graph inputs radius node))

-- from the view of a passive node one sees at each port the view of the active node there, and the port by which the edge leads to it
abbrev pub GivenSeenLaw : Type 0
GivenSeenLaw = (graph : PortGraph) (inputs : List (List ℕ)) (radius : ℕ) (here : GraphEnd) → IsGraph graph → IsPassiveEnd graph here →
    (shift radius (passive_input graph inputs (suc radius) here.node) here.port ≡ active_input graph inputs radius (active_end graph here).node)
    × (at_port (backs (passive_input graph inputs (suc radius) here.node)) here.port ≡ (active_end graph here).port)

-- what the algorithm outputs at the active nodes
abbrev pub given_outputs : PortGraph → List (List ℕ) → ℕ → (InputView → List ℕ) → List (List ℕ)
given_outputs graph inputs T algorithm = map (λ node. algorithm (known T (active_input graph inputs (suc T) node))) (count_from 0 graph.nodes)

-- what an algorithm that solves a problem given an input problem outputs on a graph with a solution of the input problem is a solution
abbrev pub GivenOutputsLaw : Type 0
GivenOutputsLaw = (problem input : Problem) (graph : PortGraph) (inputs : List (List ℕ)) (T : ℕ) (algorithm : InputView → List ℕ) → IsGraphOf problem graph → IsInput problem input →
    IsSolution input graph inputs → SolvesGivenBy problem input T algorithm → IsSolution problem graph (given_outputs graph inputs T algorithm)

-- where a problem is solvable in some number of rounds given the input problem, each graph of its degrees with a solution of the input problem has a
-- solution
abbrev pub GivenGraphLaw : Type 0
GivenGraphLaw = (problem input : Problem) (graph : PortGraph) (inputs : List (List ℕ)) (T : ℕ) → IsGraphOf problem graph → IsInput problem input → IsSolution input graph inputs →
    SolvableGiven problem input T → (labels : List (List ℕ)) × IsSolution problem graph labels

-- where some graph with a solution of the input problem has none, no number of rounds solves the problem given the input problem
abbrev pub NoSolutionGivenLaw : Type 0
NoSolutionGivenLaw = (problem input : Problem) (graph : PortGraph) (inputs : List (List ℕ)) (T : ℕ) → IsGraphOf problem graph → IsInput problem input → IsSolution input graph inputs →
    ((labels : List (List ℕ)) → IsSolution problem graph labels → ⊥) → SolvableGiven problem input T → ⊥
