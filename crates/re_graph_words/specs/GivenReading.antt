-- What the reading of a graph with a solution of an input problem gives.
use Rattle.std.specs.Prelude.{◌≡◌, ◌+◌, ◌∷◌, ℕ, List, length, Result, Ok, Err}
use Rattle.re_problem.specs.NamedProblems.{NamedProblem}
use Rattle.re_graph_words.specs.GivenInputs.{Labelled, at_labels_line, labels_from}
use Rattle.re_graph_words.specs.Reading.{IsRefused}
use Rattle.re_graph_words.specs.declared.faults.GraphFault.{GraphFault}
use Rattle.re_graph_words.specs.declared.faults.ReadFault.{ReadFault}
use Rattle.re_graph_words.specs.declared.faults.ReadFault.TheVariants.{Bad, NoMemory}
use Rattle.re_graph_words.specs.declared.given_texts.GivenGraph.{GivenGraph}
use Rattle.re_graph_words.specs.declared.given_texts.LabelledGraph.{LabelledGraph}

-- the labels that are wanted are given, or the reading is refused
abbrev pub LabelsGive : {V : Type 0} → (V → List (List ℕ)) → Result (List (List ℕ)) GraphFault → Result V ReadFault → Type 0
LabelsGive items wanted (Ok labels) = wanted ≡ Ok (items labels)
LabelsGive items wanted (Err fault) = IsRefused wanted fault

-- one line more, behind the labels of these nodes: what it makes of them, whatever lines come, or its fault
abbrev pub LabelsRefuse : NamedProblem → ℕ → ℕ → List ℕ → List (List ℕ) → ReadFault → Type 0
LabelsRefuse input nodes number line old (Bad fault) = (lines : List (List ℕ)) → labels_from input nodes number old (line ∷ lines) ≡ Err fault
LabelsRefuse input nodes number line old NoMemory = Unit {0}

abbrev pub AddsLabels : NamedProblem → ℕ → ℕ → List ℕ → List (List ℕ) → List (List ℕ) → Result (Unit {0}) ReadFault → Type 0
AddsLabels input nodes number line old new (Ok u) = (lines : List (List ℕ)) → labels_from input nodes number old (line ∷ lines) ≡ labels_from input nodes (number + 1) new lines
AddsLabels input nodes number line old new (Err fault) = LabelsRefuse input nodes number line old fault

-- the fault of the text in front of a line of this number
abbrev pub BeforeLine : ℕ → ReadFault → ReadFault → Type 0
BeforeLine number (Bad fault) given = given ≡ Bad (at_labels_line number fault)
BeforeLine number NoMemory given = given ≡ NoMemory

-- both problems and a graph are given, and the graph has the degrees of the first one
pub record IsGraphGiven (wanted : Result GivenGraph GraphFault) (given : GivenGraph) : Type 0 where
  pub wanted_is : wanted ≡ Ok given
  pub active : given.graph.active_degree ≡ given.problem.active.degree
  pub passive : given.graph.passive_degree ≡ given.problem.passive.degree

abbrev pub GivenGraphGives : Result GivenGraph GraphFault → Result GivenGraph ReadFault → Type 0
GivenGraphGives wanted (Ok given) = IsGraphGiven wanted given
GivenGraphGives wanted (Err fault) = IsRefused wanted fault

-- and labels, one list for each active node
abbrev pub labelled_with : LabelledGraph → Labelled
labelled_with labelled = record { given = labelled.given; labels = labelled.labels.items }

pub record IsLabelled (wanted : Result Labelled GraphFault) (labelled : LabelledGraph) : Type 0 where
  pub wanted_is : wanted ≡ Ok (labelled_with labelled)
  pub count : length labelled.labels.items ≡ labelled.given.graph.nodes
  pub active : labelled.given.graph.active_degree ≡ labelled.given.problem.active.degree
  pub passive : labelled.given.graph.passive_degree ≡ labelled.given.problem.passive.degree

abbrev pub LabelledGives : Result Labelled GraphFault → Result LabelledGraph ReadFault → Type 0
LabelledGives wanted (Ok labelled) = IsLabelled wanted labelled
LabelledGives wanted (Err fault) = IsRefused wanted fault
