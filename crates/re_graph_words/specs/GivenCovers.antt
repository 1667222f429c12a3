-- What the word `cover` answers to a problem and an input problem.
use Rattle.std.specs.Prelude.{◌≡◌, ◌<◌, ◌⊎◌, ℕ, List, ◌++◌, codes, length, Option, None, Some}
use Rattle.re_cover.specs.Graphs.{PortGraph}
use Rattle.re_settings.specs.InputProblems.{input_fault}
use Rattle.re_settings.specs.declared.inputs.InputFault.{InputFault as Fault}
use Rattle.re_frame.specs.Outcomes.{Outcome, done, refused, too_long}
use Rattle.re_frame.specs.TextFaults.{fault_outcome}
use Rattle.re_given.specs.Given.{SolvableGiven}
use Rattle.re_settings.specs.InputFaults.{fault_line}
use Rattle.re_graph.specs.GraphTexts.{graph_text}
use Rattle.re_graph.specs.Solving.{IsGivenCover, labels_of}
use Rattle.re_io.specs.declared.read.TheConstants.{MAX_BYTES}
use Rattle.re_problem.specs.CanonicalTexts.{canonical}
use Rattle.re_problem.specs.NamedProblems.{NamedProblem, unnamed}
use Rattle.re_problem.specs.declared.fault.InputFault.{InputFault}
use Rattle.re_graph_words.specs.GivenSolutions.{given_none_line}
use Rattle.re_graph_words.specs.NotFound.{IsNotFound}
use Rattle.re_graph_words.specs.Solutions.{node_lines}
use Rattle.re_graph_words.specs.SolveWords.{solve_outcome}

-- a problem, an input problem, and a graph with labels, written one behind the other, as `solve` reads them
abbrev pub given_cover_text : NamedProblem → NamedProblem → PortGraph → List ℕ → List ℕ
given_cover_text problem input graph labels =
    canonical problem ++ codes "== given\n" ++ canonical input ++ codes "== graph\n" ++ graph_text graph ++ codes "== labels\n" ++ node_lines input.names (labels_of input.active.degree graph.nodes labels)

-- such a graph, so that no number of rounds solves the problem given the input problem; to the text `solve` answers that there is no solution
pub record IsGivenCovered (problem input : NamedProblem) (most : ℕ) (outcome : Outcome) : Type 0 where
  pub graph : PortGraph
  pub labels : List ℕ
  pub text : outcome ≡ done (given_cover_text problem input graph labels)
  pub cover : IsGivenCover problem input most graph labels
  pub never : (T : ℕ) → SolvableGiven (unnamed problem) (unnamed input) T → ⊥
  pub refuted : solve_outcome outcome.text ≡ refused given_none_line

-- the text of some such graph is longer than what is written
pub record HasLongGivenCover (problem input : NamedProblem) (most : ℕ) : Type 0 where
  pub graph : PortGraph
  pub labels : List ℕ
  pub cover : IsGivenCover problem input most graph labels
  pub long : MAX_BYTES < length (given_cover_text problem input graph labels)

-- what may be given to a problem and an input problem of it
abbrev pub MayCoverGiven : NamedProblem → NamedProblem → ℕ → Outcome → Type 0
MayCoverGiven problem input most outcome = IsGivenCovered problem input most outcome ⊎ (IsNotFound outcome ⊎ ((outcome ≡ too_long) × HasLongGivenCover problem input most))

-- the line of the fault of the input problem comes before
abbrev pub MayCoverBeside : Option Fault → NamedProblem → NamedProblem → ℕ → Outcome → Type 0
MayCoverBeside (Some fault) problem input most outcome = outcome ≡ refused (fault_line input fault)
MayCoverBeside None problem input most outcome = MayCoverGiven problem input most outcome

-- and that of the fault of the text
abbrev pub MayCoverGivenRead : Option InputFault → NamedProblem → NamedProblem → ℕ → Outcome → Type 0
MayCoverGivenRead (Some fault) problem input most outcome = outcome ≡ fault_outcome fault
MayCoverGivenRead None problem input most outcome = MayCoverBeside (input_fault problem input) problem input most outcome
