-- What the words `solve` and `cover` answer.
use Rattle.std.specs.Prelude.{◌≡◌, ◌≤◌, ◌<◌, ◌⊎◌, ℕ, Bool, true, false, List, ◌++◌, codes, length, Option, Some, None}
use Rattle.re_cover.specs.Graphs.{PortGraph}
use Rattle.re_frame.specs.Outcomes.{Outcome, done, too_long}
use Rattle.re_frame.specs.TextFaults.{fault_outcome}
use Rattle.re_frame.specs.declared.status.Status.TheVariants.{No}
use Rattle.re_settings.specs.GivenTexts.{given_fault, given_input, given_problem}
use Rattle.re_graph.specs.GraphTexts.{graph_text}
use Rattle.re_graph.specs.Solving.{IsCover}
use Rattle.re_io.specs.declared.read.TheConstants.{MAX_BYTES}
use Rattle.re_laws.specs.Algorithms.{Solvable}
use Rattle.re_problem.specs.CanonicalTexts.{canonical}
use Rattle.re_problem.specs.NamedProblems.{NamedProblem, unnamed}
use Rattle.re_problem.specs.ProblemTexts.{first_fault, lines_of, problem_of}
use Rattle.re_problem.specs.declared.fault.InputFault.{InputFault}
use Rattle.re_chains.specs.TwoTexts.{has_line}
use Rattle.re_graph_words.specs.GivenCovers.{MayCoverGivenRead}
use Rattle.re_graph_words.specs.NotFound.{IsNotFound}
use Rattle.re_graph_words.specs.SolveWords.{IsSolved, solve_outcome}
use Rattle.re_graph_words.specs.declared.words.GraphWord.{GraphWord}
use Rattle.re_graph_words.specs.declared.words.GraphWord.TheVariants.{Cover, Solve}

-- ---- `cover` alone
-- a problem, and a graph, as `solve` reads them
abbrev pub cover_text : NamedProblem → PortGraph → List ℕ
cover_text problem graph = canonical problem ++ codes "== graph\n" ++ graph_text graph

-- a graph of at most so many active nodes without a solution, so that no number of rounds solves the problem; to the text `solve` answers No
pub record IsCovered (problem : NamedProblem) (most : ℕ) (outcome : Outcome) : Type 0 where
  pub graph : PortGraph
  pub text : outcome ≡ done (cover_text problem graph)
  pub cover : IsCover (unnamed problem) graph
  pub few : graph.nodes ≤ most
  pub never : (T : ℕ) → Solvable (unnamed problem) T → ⊥
  pub refuted : (solve_outcome outcome.text).status ≡ No

-- the text of some graph of at most so many active nodes without a solution is longer than what is written
pub record HasLongCover (problem : NamedProblem) (most : ℕ) : Type 0 where
  pub graph : PortGraph
  pub cover : IsCover (unnamed problem) graph
  pub few : graph.nodes ≤ most
  pub long : MAX_BYTES < length (cover_text problem graph)

-- what may be given to a problem
abbrev pub MayCover : NamedProblem → ℕ → Outcome → Type 0
MayCover problem most outcome = IsCovered problem most outcome ⊎ (IsNotFound outcome ⊎ ((outcome ≡ too_long) × HasLongCover problem most))

-- the line of the first fault of the text, and else what may be given to its problem
abbrev pub MayCoverRead : Option InputFault → NamedProblem → ℕ → Outcome → Type 0
MayCoverRead (Some fault) problem most outcome = outcome ≡ fault_outcome fault
MayCoverRead None problem most outcome = MayCover problem most outcome

-- ---- both
-- what `cover` may give to a text, and whether it has a line `== given`
abbrev pub MayCoverBy : Bool → ℕ → List ℕ → Outcome → Type 0
MayCoverBy true most bytes outcome = MayCoverGivenRead (given_fault bytes) (given_problem bytes) (given_input bytes) most outcome
MayCoverBy false most bytes outcome = MayCoverRead (first_fault 0 1 (lines_of bytes)) (problem_of (lines_of bytes)) most outcome

-- what a word may give to a text
unfoldable pub MayGive : GraphWord → List ℕ → Outcome → Type 0
MayGive Solve bytes outcome = IsSolved bytes outcome
MayGive (Cover most) bytes outcome = MayCoverBy (has_line (codes "given") bytes) most bytes outcome
