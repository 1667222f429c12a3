-- Solutions on a graph, as they are printed, and what a walk over labels comes to.
use Rattle.std.specs.Prelude.{◌≡◌, ℕ, List, ◌++◌, codes, flat_map}
use Rattle.re_texts.specs.CertificateLines.{image_text}
use Rattle.re_cover.specs.Graphs.{IsSolution, PortGraph}
use Rattle.re_frame.specs.Outcomes.{Outcome, done, limit_of, refused}
use Rattle.re_graph.specs.Solving.{labels_of, solution_walk}
use Rattle.re_problem.specs.NamedProblems.{NamedProblem, unnamed}
use Rattle.re_walks.specs.Walking.{Walk, cut, found, nowhere}
use Rattle.re_graph_words.specs.declared.solving.TheConstants.{MAX_TRIES}

-- a line for each active node: its labels, in the order of its ports
abbrev pub node_lines : List (List ℕ) → List (List ℕ) → List ℕ
node_lines names nodes = flat_map (λ labels. image_text names labels ++ codes "\n") nodes

-- a solution on the graph, as it is printed
abbrev pub solution_text : NamedProblem → List (List ℕ) → List ℕ
solution_text problem nodes = codes "yes:\n" ++ node_lines problem.names nodes

-- the first solution, or this line where there is none, or that the tries don't suffice
abbrev pub walked_with : List ℕ → NamedProblem → PortGraph → Walk → Outcome
walked_with line problem graph (found labels) = done (solution_text problem (labels_of problem.active.degree graph.nodes labels))
walked_with line problem graph nowhere = refused line
walked_with line problem graph cut = limit_of MAX_TRIES (codes "tries")

abbrev pub solution_outcome : List ℕ → NamedProblem → PortGraph → Outcome
solution_outcome line problem graph = walked_with line problem graph (solution_walk (unnamed problem) graph MAX_TRIES)

-- the labels that are printed are a solution on the graph
pub record PrintsSolution (problem : NamedProblem) (graph : PortGraph) (text : List ℕ) : Type 0 where
  pub labels : List (List ℕ)
  pub solution : IsSolution (unnamed problem) graph labels
  pub printed : text ≡ solution_text problem labels

-- no labels are one
abbrev pub HasNone : NamedProblem → PortGraph → Type 0
HasNone problem graph = (labels : List (List ℕ)) → IsSolution (unnamed problem) graph labels → ⊥
