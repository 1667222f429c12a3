-- What `solve` answers to a problem, an input problem and a graph with labels of the input problem.
use Rattle.std.specs.Prelude.{◌≡◌, ℕ, List, ◌++◌, codes, Option, None, Some}
use Rattle.std.specs.Fmt.{decimal}
use Rattle.re_cover.specs.Graphs.{IsSolution}
use Rattle.re_settings.specs.InputProblems.{input_fault}
use Rattle.re_frame.specs.Outcomes.{Outcome, refused}
use Rattle.re_frame.specs.declared.status.Status.TheVariants.{Done}
use Rattle.re_given.specs.Given.{SolvableGiven}
use Rattle.re_settings.specs.InputFaults.{or_input_fault}
use Rattle.re_graph.specs.Judging.{labels_fault}
use Rattle.re_graph.specs.declared.judging.LabelsFault.{LabelsFault}
use Rattle.re_graph.specs.declared.judging.LabelsFault.TheVariants.{Active, Passive}
use Rattle.re_problem.specs.NamedProblems.{unnamed}
use Rattle.re_graph_words.specs.GivenInputs.{Labelled}
use Rattle.re_graph_words.specs.Solutions.{HasNone, PrintsSolution, solution_outcome}

-- the line where there is no solution
abbrev pub given_none_line : List ℕ
given_none_line = codes "no: no solution on this graph, so not solvable in any number of rounds given that input\n"

-- the line of the first node at which the labels are no solution of the input problem
abbrev pub labels_line : LabelsFault → List ℕ
labels_line (Active node) = codes "no: not a solution of the input: active node " ++ decimal node ++ codes "\n"
labels_line (Passive node) = codes "no: not a solution of the input: passive node " ++ decimal node ++ codes "\n"

-- that line, and where they are one the other outcome
abbrev pub or_labels_fault : Option LabelsFault → Outcome → Outcome
or_labels_fault (Some fault) outcome = refused (labels_line fault)
or_labels_fault None outcome = outcome

-- the line of the fault of the input problem comes first, then that of the labels
abbrev pub labelled_outcome : Labelled → Outcome
labelled_outcome labelled =
    or_input_fault labelled.given.input (input_fault labelled.given.problem labelled.given.input)
    (or_labels_fault (labels_fault (unnamed labelled.given.input) labelled.given.graph labelled.labels) (solution_outcome given_none_line labelled.given.problem labelled.given.graph))

-- what an answer means: Done is given to a problem with a solution on the graph, and with one; the line that there is none to a problem without on a
-- graph where the labels are a solution of the input problem, which no number of rounds solves given the input problem
pub record GivenMeans (labelled : Labelled) (outcome : Outcome) : Type 0 where
  pub yes : outcome.status ≡ Done → PrintsSolution labelled.given.problem labelled.given.graph outcome.text
  pub given : outcome ≡ refused given_none_line → IsSolution (unnamed labelled.given.input) labelled.given.graph labelled.labels
  pub none : outcome ≡ refused given_none_line → HasNone labelled.given.problem labelled.given.graph
  pub never : outcome ≡ refused given_none_line → (T : ℕ) → SolvableGiven (unnamed labelled.given.problem) (unnamed labelled.given.input) T → ⊥
