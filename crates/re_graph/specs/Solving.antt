-- The search for a solution on a graph.
use Rattle.std.specs.Prelude.{◌≡◌, ℕ, zero, suc, ◌+◌, ◌-◌, ◌*◌, ◌≤◌, nat_lt, Bool, true, not, ◌&&◌, ◌||◌, List, [], ◌∷◌, length, map, take, drop, if◌then◌else◌, slice_index, Option, None, Some}
use Rattle.std.specs.List.{list_all}
use Rattle.re_cover.specs.declared.ends.GraphEnd.{GraphEnd}
use Rattle.re_cover.specs.Graphs.{IsGraphOf, IsSolution, PortGraph}
use Rattle.re_problem.specs.NamedProblems.{NamedProblem, unnamed}
use Rattle.re_problem.specs.Problems.{IsProblem, Problem}
use Rattle.re_labels.specs.Constraints.{Constraint, has_config}
use Rattle.re_walks.specs.Begun.{is_begun}
use Rattle.re_walks.specs.Walking.{BeginningsPass, IsAssignment, Walk, walk}

-- the labels of so many nodes, of which those of one node stand behind those of the one before
abbrev pub labels_of : ℕ → ℕ → List ℕ → List (List ℕ)
labels_of degree zero labels = []
labels_of degree (suc nodes) labels = take degree labels ∷ labels_of degree nodes (drop degree labels)

-- whether those of the nodes that have all theirs are configurations, and those behind them begin one
abbrev pub are_active : Constraint → ℕ → ℕ → List ℕ → Bool
are_active active n zero labels = true
are_active active n (suc nodes) labels =
    if nat_lt (length labels) active.degree then is_begun active n labels
    else has_config active (take active.degree labels) && are_active active n nodes (drop active.degree labels)

-- the place of an end among the labels of all nodes
abbrev pub place_of : ℕ → GraphEnd → ℕ
place_of degree here = here.node * degree + (here.port - 1)

-- whether all these ends have labels
abbrev pub have_labels : ℕ → ℕ → List GraphEnd → Bool
have_labels degree count ends = list_all (λ here. nat_lt (place_of degree here) count) ends

-- their labels
abbrev pub labels_at : ℕ → List ℕ → List GraphEnd → List ℕ
labels_at degree labels ends = map (λ here. slice_index labels (place_of degree here)) ends

-- whether the labels at a passive node all of whose ends have labels are a configuration
abbrev pub is_kept : Constraint → ℕ → List ℕ → List GraphEnd → Bool
is_kept passive degree labels ends = not (have_labels degree (length labels) ends) || has_config passive (labels_at degree labels ends)

-- the same of all passive nodes
abbrev pub are_kept : Constraint → ℕ → List ℕ → List (List GraphEnd) → Bool
are_kept passive degree labels nodes = list_all (is_kept passive degree labels) nodes

-- whether labels of the first ends may begin a solution
abbrev pub passes_on : Problem → PortGraph → List ℕ → Bool
passes_on problem graph labels =
    are_active problem.active problem.labels graph.nodes labels && are_kept problem.passive problem.active.degree labels graph.passive

-- the walk over the labels of the ends of active nodes, node by node and port by port
abbrev pub solution_walk : Problem → PortGraph → ℕ → Walk
solution_walk problem graph tries = walk (passes_on problem graph) problem.labels (graph.nodes * problem.active.degree) tries

-- the labels of a solution, written one behind the other, or nothing where there is no solution
abbrev pub IsAnswer : Problem → PortGraph → Option (List ℕ) → Type 0
IsAnswer problem graph None = (labels : List (List ℕ)) → IsSolution problem graph labels → ⊥
IsAnswer problem graph (Some labels) = IsSolution problem graph (labels_of problem.active.degree graph.nodes labels)

-- a graph of the problem's degrees without a solution
abbrev pub IsCover : Problem → PortGraph → Type 0
IsCover problem graph = IsGraphOf problem graph × ((labels : List (List ℕ)) → IsSolution problem graph labels → ⊥)

-- labels, written one behind the other, that are a solution
pub record AreSolution (problem : Problem) (graph : PortGraph) (labels : List ℕ) : Type 0 where
  pub assignment : IsAssignment problem.labels (graph.nodes * problem.active.degree) labels
  pub solution : IsSolution problem graph (labels_of problem.active.degree graph.nodes labels)

-- a graph of at most so many active nodes on which the problem has no solution, and these labels are one of the input problem
pub record IsGivenCover (problem input : NamedProblem) (most : ℕ) (graph : PortGraph) (labels : List ℕ) : Type 0 where
  pub cover : IsCover (unnamed problem) graph
  pub given : AreSolution (unnamed input) graph labels
  pub few : graph.nodes ≤ most

-- beginnings of what passes do, what passes with all its labels is a solution, and each solution passes
pub record PassesLaw (problem : Problem) (graph : PortGraph) : Type 0 where
  pub beginnings : BeginningsPass (passes_on problem graph) problem.labels (graph.nodes * problem.active.degree)
  pub solutions : (labels : List ℕ) → IsAssignment problem.labels (graph.nodes * problem.active.degree) labels → passes_on problem graph labels ≡ true →
      IsSolution problem graph (labels_of problem.active.degree graph.nodes labels)
  pub all : (labels : List (List ℕ)) → IsSolution problem graph labels → (flat : List ℕ) × IsAssignment problem.labels (graph.nodes * problem.active.degree) flat
      × (passes_on problem graph flat ≡ true) × (labels_of problem.active.degree graph.nodes flat ≡ labels)

-- this holds of each problem and each graph of its degrees
abbrev pub SolutionWalkLaw : Type 0
SolutionWalkLaw = (problem : Problem) (graph : PortGraph) → IsProblem problem → IsGraphOf problem graph → PassesLaw problem graph
