-- The lines of faults of the text of a graph.
use Rattle.std.specs.Prelude.{ℕ, List, [], ◌++◌, codes}
use Rattle.std.specs.Fmt.{decimal}
use Rattle.re_frame.specs.Outcomes.{Outcome}
use Rattle.re_frame.specs.TextFaults.{fault_outcome}
use Rattle.re_frame.specs.declared.status.Status.{Status}
use Rattle.re_frame.specs.declared.status.Status.TheVariants.{BadInput, Limit}
use Rattle.re_graph_words.specs.declared.faults.GraphFault.{GraphFault}
use Rattle.re_graph_words.specs.declared.faults.GraphFault.TheVariants.{EndMissing, EndTwice, NoSuchEnd, NotEnds, Text, TooManyNodes}

-- the line of a fault of the lines of a graph
abbrev pub graph_fault_line : GraphFault → List ℕ
graph_fault_line (NotEnds line) = codes "input: line " ++ decimal line ++ codes ": not a list of ends\n"
graph_fault_line (NoSuchEnd line) = codes "input: line " ++ decimal line ++ codes ": no such end\n"
graph_fault_line (EndTwice line) = codes "input: line " ++ decimal line ++ codes ": an end stands twice\n"
graph_fault_line (EndMissing line) = codes "input: line " ++ decimal line ++ codes ": an end is missing\n"
graph_fault_line (TooManyNodes line) = codes "limit: line " ++ decimal line ++ codes ": more than 64 nodes\n"
graph_fault_line (Text fault) = []

-- a text that passes a limit isn't wrong
abbrev pub graph_fault_status : GraphFault → Status
graph_fault_status (TooManyNodes line) = Limit
graph_fault_status fault = BadInput

abbrev pub graph_fault_outcome : GraphFault → Outcome
graph_fault_outcome (Text fault) = fault_outcome fault
graph_fault_outcome fault = record { status = graph_fault_status fault; text = graph_fault_line fault }
