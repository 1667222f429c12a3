-- Texts of a problem and a graph: a problem text, a line `== graph`, and the lines of the graph.
use Rattle.std.specs.Prelude.{ℕ, ◌+◌, List, [], codes, length, if◌then◌else◌, Option, None, Some, Result, Ok, Err}
use Rattle.re_problem.specs.NamedProblems.{NamedProblem, degrees_of}
use Rattle.re_problem.specs.ProblemTexts.{lines_of, problem_of}
use Rattle.re_problem.specs.declared.fault.InputFault.{InputFault}
use Rattle.re_problem.specs.declared.fault.InputFault.TheVariants.{EarlyEnd}
use Rattle.re_chains.specs.TwoTexts.{front_text, has_line, lines_behind, lines_to, problem_fault, problem_lines}
use Rattle.re_graph_words.specs.GraphLines.{and_then, graph_from}
use Rattle.re_graph_words.specs.declared.faults.GraphFault.{GraphFault}
use Rattle.re_graph_words.specs.declared.faults.GraphFault.TheVariants.{Text}
use Rattle.re_graph_words.specs.declared.texts.GraphText.{GraphText}

-- a fault of the problem's text comes first
abbrev pub or_text_fault : {X : Type 0} → Option InputFault → Result X GraphFault → Result X GraphFault
or_text_fault (Some fault) result = Err (Text fault)
or_text_fault None result = result

-- the problem with the graph of these lines, of which the first has this number
abbrev pub graph_for : NamedProblem → ℕ → List (List ℕ) → Result GraphText GraphFault
graph_for problem number lines = and_then (graph_from (degrees_of problem) number [] lines) (λ graph. Ok (record { problem = problem; graph = graph }))

-- the problem that the text in front of the line writes
abbrev pub front_problem : List ℕ → NamedProblem
front_problem front = problem_of (problem_lines (lines_of front))

-- the problem and the graph that a text writes, or its first fault
unfoldable pub graph_input : List ℕ → Result GraphText GraphFault
graph_input bytes =
    if has_line (codes "graph") bytes
    then or_text_fault (problem_fault 0 1 (lines_of (front_text (codes "graph") bytes)))
    (graph_for (front_problem (front_text (codes "graph") bytes)) (length (lines_to (codes "graph") bytes) + 1) (lines_behind (codes "graph") bytes))
    else or_text_fault (problem_fault 0 1 (lines_of bytes)) (Err (Text EarlyEnd))
