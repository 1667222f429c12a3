-- The faults of the texts of parts of evidence: what `judge` answers to them before it judges what they hold.
use Rattle.std.specs.Prelude.{ℕ, zero, suc, ◌+◌, Bool, true, false, List, codes, length, option_map, Option, None, Some, Result, Ok, Err}
use Rattle.re_cert.specs.Bounds.{last_problem}
use Rattle.re_cert.specs.CertificateTexts.{certificate_fault, text_lines}
use Rattle.re_chains.specs.TwoTexts.{front_chain, has_line, lines_behind, lines_to, two_fault}
use Rattle.re_frame.specs.Outcomes.{Outcome, limit_of}
use Rattle.re_frame.specs.TextFaults.{fault_outcome}
use Rattle.re_graph_words.specs.Faults.{graph_fault_outcome}
use Rattle.re_graph_words.specs.GivenInputs.{labelled_input}
use Rattle.re_graph_words.specs.GraphInputs.{graph_input}
use Rattle.re_graph_words.specs.declared.faults.GraphFault.{GraphFault}
use Rattle.re_judging.specs.GreedyParts.{chain_front_fault, turns_on}
use Rattle.re_judging.specs.Joints.{behind_joint, first_part, joint_at}
use Rattle.re_judging.specs.Judging.{in_part}
use Rattle.re_judging.specs.LabelLines.{one_set}
use Rattle.re_judging.specs.PartVerdicts.{front_fault, front_problem, kind_of, number_in}
use Rattle.re_judging.specs.declared.types.PartKind.{PartKind}
use Rattle.re_judging.specs.declared.types.PartKind.TheVariants.{Certificate, Flexible, Given, Graph, Greedy, Length}
use Rattle.re_problem.specs.ProblemTexts.{or_else}
use Rattle.re_problem.specs.declared.fault.InputFault.{InputFault}
use Rattle.re_problem.specs.declared.fault.InputFault.TheVariants.{BadEntry}

-- ---- the fault of the text of a part
-- the fault, where there is one
abbrev pub read_fault : {X : Type 0} → Result X InputFault → Option InputFault
read_fault (Ok x) = None
read_fault (Err fault) = Some fault

abbrev pub graph_refusal : {X : Type 0} → Result X GraphFault → Option Outcome
graph_refusal (Ok x) = None
graph_refusal (Err fault) = Some (graph_fault_outcome fault)

-- a line of this number that writes no number
abbrev pub number_fault : ℕ → Option ℕ → Option InputFault
number_fault line None = Some (BadEntry line)
number_fault line (Some number) = None

-- of the problem or the chain in front of the line, and else of the lines behind it
abbrev pub length_fault : List ℕ → Option InputFault
length_fault bytes =
    or_else (front_fault (codes "length") bytes) (number_fault (length (lines_to (codes "length") bytes) + 1) (number_in (lines_behind (codes "length") bytes)))

abbrev pub flexible_fault : List ℕ → Option InputFault
flexible_fault bytes =
    or_else (front_fault (codes "flexible") bytes)
    (read_fault (one_set (front_problem (codes "flexible") bytes).names (length (lines_to (codes "flexible") bytes) + 1) (lines_behind (codes "flexible") bytes)))

abbrev pub greedy_fault : List ℕ → Option InputFault
greedy_fault bytes =
    or_else (chain_front_fault bytes)
    (read_fault (turns_on (last_problem (front_chain (codes "greedy") bytes)) (length (lines_to (codes "greedy") bytes) + 1) (lines_behind (codes "greedy") bytes)))

abbrev pub graph_fault : Bool → List ℕ → Option Outcome
graph_fault true bytes = graph_refusal (labelled_input bytes)
graph_fault false bytes = graph_refusal (graph_input bytes)

-- the line of the first fault of a text of this kind
abbrev pub fault_by : PartKind → List ℕ → Option Outcome
fault_by Certificate bytes = option_map fault_outcome (certificate_fault (text_lines bytes))
fault_by Given bytes = option_map fault_outcome (two_fault (codes "given") bytes)
fault_by Graph bytes = graph_fault (has_line (codes "given") bytes) bytes
fault_by Length bytes = option_map fault_outcome (length_fault bytes)
fault_by Flexible bytes = option_map fault_outcome (flexible_fault bytes)
fault_by Greedy bytes = option_map fault_outcome (greedy_fault bytes)

-- that of the text of a part
abbrev pub part_fault : List ℕ → Option Outcome
part_fault bytes = fault_by (kind_of bytes) bytes

-- ---- the first part that has one
abbrev pub or_next : Option Outcome → Option Outcome → Option Outcome
or_next None next = next
or_next (Some outcome) next = Some outcome

-- no part may be left
abbrev pub too_many : Option ℕ → Option Outcome
too_many None = None
too_many (Some at) = Some (limit_of 16 (codes "parts"))

-- the parts behind this joint
abbrev pub fault_behind : (List ℕ → Option Outcome) → Option ℕ → List ℕ → Option Outcome
fault_behind rest None bytes = None
fault_behind rest (Some at) bytes = rest (behind_joint at bytes)

-- the answer to the first part of a text that has a fault, where so many may follow the first one, which has this number
abbrev pub parts_fault : ℕ → ℕ → List ℕ → Option Outcome
parts_fault zero number bytes = or_next (option_map (in_part number) (part_fault (first_part bytes))) (too_many (joint_at bytes))
parts_fault (suc more) number bytes =
    or_next (option_map (in_part number) (part_fault (first_part bytes))) (fault_behind (parts_fault more (suc number)) (joint_at bytes) bytes)
