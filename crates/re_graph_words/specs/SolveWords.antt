-- What the word `solve` answers to a text.
use Rattle.std.specs.Prelude.{◌≡◌, ℕ, Bool, true, false, List, codes, if◌then◌else◌, Result, Ok, Err}
use Rattle.re_cover.specs.Graphs.{PortGraph}
use Rattle.re_frame.specs.Outcomes.{Outcome}
use Rattle.re_frame.specs.declared.status.Status.TheVariants.{Done, No}
use Rattle.re_laws.specs.Algorithms.{Solvable}
use Rattle.re_problem.specs.NamedProblems.{NamedProblem, unnamed}
use Rattle.re_chains.specs.TwoTexts.{has_line}
use Rattle.re_graph_words.specs.Faults.{graph_fault_outcome}
use Rattle.re_graph_words.specs.GivenInputs.{Labelled, labelled_input}
use Rattle.re_graph_words.specs.GivenSolutions.{GivenMeans, labelled_outcome}
use Rattle.re_graph_words.specs.GraphInputs.{graph_input}
use Rattle.re_graph_words.specs.Solutions.{HasNone, PrintsSolution, solution_outcome}
use Rattle.re_graph_words.specs.declared.faults.GraphFault.{GraphFault}
use Rattle.re_graph_words.specs.declared.texts.GraphText.{GraphText}

-- the line where there is no solution
abbrev pub none_line : List ℕ
none_line = codes "no: no solution on this graph, so not solvable in any number of rounds\n"

-- ---- a problem and a graph
abbrev pub read_outcome : Result GraphText GraphFault → Outcome
read_outcome (Ok text) = solution_outcome none_line text.problem text.graph
read_outcome (Err fault) = graph_fault_outcome fault

-- what an answer means: Done is given to a problem with a solution on the graph, and with one; No to a problem without, which no number of rounds
-- solves
pub record AnswerMeans (problem : NamedProblem) (graph : PortGraph) (outcome : Outcome) : Type 0 where
  pub yes : outcome.status ≡ Done → PrintsSolution problem graph outcome.text
  pub none : outcome.status ≡ No → HasNone problem graph
  pub never : outcome.status ≡ No → (T : ℕ) → Solvable (unnamed problem) T → ⊥

abbrev pub ReadMeans : Result GraphText GraphFault → Outcome → Type 0
ReadMeans (Ok text) outcome = AnswerMeans text.problem text.graph outcome
ReadMeans (Err fault) outcome = Unit {0}

-- ---- the same where an input problem and a solution of it are given
abbrev pub read_labelled_outcome : Result Labelled GraphFault → Outcome
read_labelled_outcome (Ok labelled) = labelled_outcome labelled
read_labelled_outcome (Err fault) = graph_fault_outcome fault

abbrev pub ReadLabelledMeans : Result Labelled GraphFault → Outcome → Type 0
ReadLabelledMeans (Ok labelled) outcome = GivenMeans labelled outcome
ReadLabelledMeans (Err fault) outcome = Unit {0}

-- ---- both
-- what it answers to a text, and whether it has a line `== given`
abbrev pub outcome_by : Bool → List ℕ → Outcome
outcome_by true bytes = read_labelled_outcome (labelled_input bytes)
outcome_by false bytes = read_outcome (graph_input bytes)

unfoldable pub solve_outcome : List ℕ → Outcome
solve_outcome bytes = outcome_by (has_line (codes "given") bytes) bytes

abbrev pub MeansBy : Bool → List ℕ → Outcome → Type 0
MeansBy true bytes outcome = ReadLabelledMeans (labelled_input bytes) outcome
MeansBy false bytes outcome = ReadMeans (graph_input bytes) outcome

-- the answer to a text, and what it means of what the text writes
pub record IsSolved (bytes : List ℕ) (outcome : Outcome) : Type 0 where
  pub answer : outcome ≡ solve_outcome bytes
  pub means : MeansBy (has_line (codes "given") bytes) bytes outcome
