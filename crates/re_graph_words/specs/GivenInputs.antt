-- Texts of a problem, an input problem and a graph with a solution of the input problem: a problem text, a line `== given`, a problem text, a line
-- `== graph`, the lines of the graph, a line `== labels`, and a line for each active node, with its input labels in the order of its ports.
use Rattle.std.specs.Prelude.{ℕ, ◌+◌, ◌-◌, ◌==◌, List, [], ◌∷◌, ◌++◌, codes, length, option_and_then, option_map, if◌then◌else◌, Option, None, Some, Result, Ok, Err}
use Rattle.re_cert.specs.Entries.{image_labels, label_items}
use Rattle.re_problem.specs.Bytes.{is_empty_line}
use Rattle.re_problem.specs.Items.{ItemText}
use Rattle.re_labels.specs.PortLabels.{port_labels}
use Rattle.re_problem.specs.NamedProblems.{NamedProblem, degrees_of}
use Rattle.re_problem.specs.declared.fault.InputFault.{InputFault}
use Rattle.re_problem.specs.declared.fault.InputFault.TheVariants.{BadEntry, BadItem, BadSection, EarlyEnd}
use Rattle.re_settings.specs.GivenTexts.{given_fault, given_input, given_problem}
use Rattle.re_settings.specs.declared.texts.GivenTexts.{GivenTexts}
use Rattle.re_problem.specs.SectionLines.{is_section}
use Rattle.re_chains.specs.TwoTexts.{at_line, front_text, has_line, lines_behind, lines_to}
use Rattle.re_graph_words.specs.GraphInputs.{or_text_fault}
use Rattle.re_graph_words.specs.GraphLines.{and_then, graph_from}
use Rattle.re_graph_words.specs.declared.faults.GraphFault.{GraphFault}
use Rattle.re_graph_words.specs.declared.faults.GraphFault.TheVariants.{Text}
use Rattle.re_graph_words.specs.declared.given_texts.GivenGraph.{GivenGraph}

-- a problem, an input problem, a graph, and labels for each active node
pub record Labelled : Type 0 where
  pub given : GivenGraph
  pub labels : List (List ℕ)

-- ---- the lines of labels
-- the labels of a line of this number, if it has any
abbrev pub held_on : ℕ → Option (List ℕ) → Result (List ℕ) GraphFault
held_on number None = Err (Text (BadEntry number))
held_on number (Some labels) = Ok labels

-- the labels of a node that the items of a line write: labels of the input problem, as many as a node has ports
abbrev pub node_labels : NamedProblem → ℕ → Option (List ItemText) → Result (List ℕ) GraphFault
node_labels input number None = Err (Text (BadItem number))
node_labels input number (Some items) = held_on number (option_and_then port_labels (image_labels input.names input.active.degree items))

-- the labels of so many nodes that lines write, of which the first has this number, behind those that were read
abbrev pub labels_from : NamedProblem → ℕ → ℕ → List (List ℕ) → List (List ℕ) → Result (List (List ℕ)) GraphFault
labels_from input nodes number read [] = if length read == nodes then Ok read else Err (Text EarlyEnd)
labels_from input nodes number read (line ∷ lines) =
    if is_empty_line line then labels_from input nodes (number + 1) read lines
    else if is_section line then Err (Text (BadSection number))
    else if length read == nodes then Err (Text (BadEntry number))
    else and_then (node_labels input number (label_items line)) (λ labels. labels_from input nodes (number + 1) (read ++ labels ∷ []) lines)

-- ---- the text in front of them
-- a text that ends too early in front of a line of this number doesn't expect it
abbrev pub at_labels_line : ℕ → GraphFault → GraphFault
at_labels_line number (Text fault) = Text (at_line number fault)
at_labels_line number fault = fault

abbrev pub at_labels : ℕ → Result GivenGraph GraphFault → Result GivenGraph GraphFault
at_labels number (Ok given) = Ok given
at_labels number (Err fault) = Err (at_labels_line number fault)

-- two problems, with the graph of these lines, of which the first has this number
abbrev pub graph_behind : GivenTexts → ℕ → List (List ℕ) → Result GivenGraph GraphFault
graph_behind texts number lines =
    and_then (graph_from (degrees_of texts.problem) number [] lines) (λ graph. Ok (record { problem = texts.problem; input = texts.input; graph = graph }))

-- those that a text writes, with this graph
abbrev pub given_for : List ℕ → ℕ → List (List ℕ) → Result GivenGraph GraphFault
given_for front number lines =
    or_text_fault (option_map (at_line (number - 1)) (given_fault front)) (graph_behind (record { problem = given_problem front; input = given_input front }) number lines)

-- the problem, the input problem and the graph, or the first fault
unfoldable pub given_graph : List ℕ → Result GivenGraph GraphFault
given_graph bytes =
    if has_line (codes "graph") bytes
    then given_for (front_text (codes "graph") bytes) (length (lines_to (codes "graph") bytes) + 1) (lines_behind (codes "graph") bytes)
    else or_text_fault (given_fault bytes) (Err (Text EarlyEnd))

-- ---- all of it
-- the graph with the labels of these lines, of which the first has this number
abbrev pub labelled_for : GivenGraph → ℕ → List (List ℕ) → Result Labelled GraphFault
labelled_for given number lines = and_then (labels_from given.input given.graph.nodes number [] lines) (λ labels. Ok (record { given = given; labels = labels }))

-- the same behind what the text in front of them gives
abbrev pub labelled_by : Result GivenGraph GraphFault → ℕ → List (List ℕ) → Result Labelled GraphFault
labelled_by given number lines = and_then (at_labels (number - 1) given) (λ given. labelled_for given number lines)

-- the graph with labels that a text writes, or its first fault
unfoldable pub labelled_input : List ℕ → Result Labelled GraphFault
labelled_input bytes =
    if has_line (codes "labels") bytes
    then labelled_by (given_graph (front_text (codes "labels") bytes)) (length (lines_to (codes "labels") bytes) + 1) (lines_behind (codes "labels") bytes)
    else and_then (given_graph bytes) (λ given. Err (Text EarlyEnd))
