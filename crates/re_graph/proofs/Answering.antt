-- What the walk over labels tells of solutions.
use Rattle.std.proofs.Common.{◌≡◌, ◌*◌, ℕ, List, IfNone, IfOk, IfSome, MatchOption, Option, None, Some, Result, Ok, Err, sym, ◌∙◌, subst, true≢false}
use Rattle.re_cover.specs.Graphs.{IsGraphOf, PortGraph}
use Rattle.re_cover.specs.GivenGraphs.{NoSolutionGivenLaw}
use Rattle.re_cover.proofs.Outputs.{no_solution_law}
use Rattle.re_given.specs.Given.{SolvableGiven}
use Rattle.re_given.specs.Inputs.{IsInput}
use Rattle.re_graph.proofs.Meaning.{passes_law}
use Rattle.re_graph.specs.Solving.{AreSolution, IsAnswer, IsCover, passes_on, solution_walk}
use Rattle.re_graph.specs.declared.covers.Cover.{Cover}
use Rattle.re_laws.specs.Algorithms.{Solvable}
use Rattle.re_problem.specs.Problems.{IsProblem, Problem}
use Rattle.re_walks.proofs.WalkLemmas.{walk_law}
use Rattle.re_walks.specs.Walking.{Tells, Walk, found, nowhere}

tells : (problem : Problem) (graph : PortGraph) (tries : ℕ) → IsProblem problem → IsGraphOf problem graph → (w : Walk) → solution_walk problem graph tries ≡ w → Tells (passes_on problem graph) problem.labels (graph.nodes * problem.active.degree) w
tells problem graph tries is of w e = subst (Tells (passes_on problem graph) problem.labels (graph.nodes * problem.active.degree)) e (walk_law (passes_on problem graph) problem.labels (graph.nodes * problem.active.degree) tries (passes_law problem graph is of).beginnings)

pub none-answer : (problem : Problem) (graph : PortGraph) (tries : ℕ) → IsProblem problem → IsGraphOf problem graph → solution_walk problem graph tries ≡ nowhere → IsAnswer problem graph None
none-answer problem graph tries is of e labels solution =
    let (flat, given, passes, same) = (passes_law problem graph is of).all labels solution in
    absurd (true≢false (sym passes ∙ tells problem graph tries is of nowhere e flat given))

pub some-answer : (problem : Problem) (graph : PortGraph) (tries : ℕ) (labels : List ℕ) → IsProblem problem → IsGraphOf problem graph → solution_walk problem graph tries ≡ found labels → IsAnswer problem graph (Some labels)
some-answer problem graph tries labels is of e =
    let first = tells problem graph tries is of (found labels) e in
    (passes_law problem graph is of).solutions labels first.assignment first.meets

pub none-means : (problem : Problem) (graph : PortGraph) → IsGraphOf problem graph → IsAnswer problem graph None → (T : ℕ) → Solvable problem T → ⊥
none-means problem graph of none T solvable = no_solution_law problem graph T of none solvable

-- the same of what a call gives back
pub answered : {V : Type 0} (problem : Problem) (graph : PortGraph) (tries : ℕ) → IsProblem problem → IsGraphOf problem graph → (items : V → List ℕ) (labels : Option V)
    → MatchOption labels (solution_walk problem graph tries ≡ nowhere) (λ v. solution_walk problem graph tries ≡ found (items v))
    → MatchOption labels (IsAnswer problem graph None) (λ v. IsAnswer problem graph (Some (items v)))
answered problem graph tries is of items None e = none-answer problem graph tries is of e
answered problem graph tries is of items (Some v) e = some-answer problem graph tries (items v) is of e

pub meant : {V : Type 0} (problem : Problem) (graph : PortGraph) (tries : ℕ) → IsProblem problem → IsGraphOf problem graph → (items : V → List ℕ) (labels : Option V)
    → MatchOption labels (solution_walk problem graph tries ≡ nowhere) (λ v. solution_walk problem graph tries ≡ found (items v))
    → IfNone labels ((T : ℕ) → Solvable problem T → ⊥)
meant problem graph tries is of items None e = none-means problem graph of (none-answer problem graph tries is of e)
meant problem graph tries is of items (Some v) e = tt

-- what a graph without a solution means
pub cover-means : (problem : Problem) (o : Option PortGraph) → IfSome o (IsCover problem) → IfSome o (λ _. (T : ℕ) → Solvable problem T → ⊥)
cover-means problem None h = h
cover-means problem (Some graph) h = none-means problem graph h.0 h.1

-- what one without a solution means on which an input problem has one
pub given-cover-means : NoSolutionGivenLaw → (problem input : Problem) (o : Option Cover) → IsInput problem input → IfSome o (λ cover. IsCover problem cover.graph) → IfSome o (λ cover. AreSolution input cover.graph cover.labels.items)
    → IfSome o (λ _. (T : ℕ) → SolvableGiven problem input T → ⊥)
given-cover-means law problem input None is h given = h
given-cover-means law problem input (Some cover) is h given = λ T. law problem input cover.graph _ T h.0 is given.solution h.1

-- the same of what a search gives back
pub found-means : {V E : Type 0} → NoSolutionGivenLaw → (problem input : Problem) (covers : V → Option Cover) (r : Result V E) → IsInput problem input → IfOk r (λ v. IfSome (covers v) (λ cover. IsCover problem cover.graph))
    → IfOk r (λ v. IfSome (covers v) (λ cover. AreSolution input cover.graph cover.labels.items)) → IfOk r (λ v. IfSome (covers v) (λ _. (T : ℕ) → SolvableGiven problem input T → ⊥))
found-means law problem input covers (Ok v) is h given = given-cover-means law problem input (covers v) is h given
found-means law problem input covers (Err e) is h given = h
