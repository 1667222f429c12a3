-- The lines of a graph: one for each passive node, with its ends in the order of its ports, as `u.q`, the active node u from 1 and its port q.
use Rattle.std.specs.Prelude.{ℕ, ◌+◌, ◌-◌, ◌==◌, max, nat_le, nat_lt, Bool, not, ◌&&◌, ◌||◌, List, [], ◌∷◌, ◌++◌, drop, length, position, take, if◌then◌else◌, Option, None, Some, Result, Ok, Err}
use Rattle.std.specs.List.{list_any}
use Rattle.re_cover.specs.Graphs.{PortGraph, same_end}
use Rattle.re_cover.specs.declared.ends.GraphEnd.{GraphEnd}
use Rattle.re_graph.specs.Building.{is_graph, stands}
use Rattle.re_graph.specs.declared.graph.TheConstants.{MAX_NODES}
use Rattle.re_problem.specs.Bytes.{is_empty_line}
use Rattle.re_problem.specs.Numerals.{number_of}
use Rattle.re_problem.specs.ItemSteps.{is_nil}
use Rattle.re_labels.specs.declared.sides.Degrees.{Degrees}
use Rattle.re_problem.specs.declared.fault.InputFault.TheVariants.{BadSection, WrongDegree}
use Rattle.re_problem.specs.SectionLines.{is_section, words_of}
use Rattle.re_graph_words.specs.declared.faults.GraphFault.{GraphFault}
use Rattle.re_graph_words.specs.declared.faults.GraphFault.TheVariants.{EndMissing, EndTwice, NoSuchEnd, NotEnds, Text, TooManyNodes}

-- ---- an end
abbrev pub end_with : Option ℕ → Option ℕ → Option (ℕ × ℕ)
end_with (Some node) (Some port) = Some (node, port)
end_with left right = None

abbrev pub end_cut : List ℕ → Option ℕ → Option (ℕ × ℕ)
end_cut word None = None
end_cut word (Some dot) = end_with (number_of (take dot word)) (number_of (drop (dot + 1) word))

-- the number of the node and the port that a word writes: two numbers with a dot between
abbrev pub end_on : List ℕ → Option (ℕ × ℕ)
end_on word = end_cut word (position (λ b. b == 46) word)

-- ---- a line
-- the end stands on a line before, or before it on its own
abbrev pub stands_before : List (List GraphEnd) → List GraphEnd → GraphEnd → Bool
stands_before passive ends here = stands passive here || list_any (λ other. same_end other here) ends

-- whether a node has a port of this number, where nodes count from 1
abbrev pub is_numbered : Degrees → ℕ → ℕ → Bool
is_numbered degrees node port = nat_le 1 node && nat_le 1 port && nat_le port degrees.active

-- the end of the node of this number, from 1, with this port, behind these lines and these ends of its own line, which has this number
abbrev pub judged_end : Degrees → ℕ → List (List GraphEnd) → List GraphEnd → ℕ → ℕ → Result GraphEnd GraphFault
judged_end degrees number passive ends node port =
    if not (is_numbered degrees node port) then Err (NoSuchEnd number)
    else if nat_lt MAX_NODES node then Err (TooManyNodes number)
    else if stands_before passive ends (record { node = node - 1; port = port }) then Err (EndTwice number)
    else if length ends == degrees.passive then Err (Text (WrongDegree number))
    else Ok (record { node = node - 1; port = port })

abbrev pub judged_word : Degrees → ℕ → List (List GraphEnd) → List GraphEnd → Option (ℕ × ℕ) → Result GraphEnd GraphFault
judged_word degrees number passive ends None = Err (NotEnds number)
judged_word degrees number passive ends (Some written) = judged_end degrees number passive ends written.0 written.1

abbrev pub and_then : {A B : Type 0} → Result A GraphFault → (A → Result B GraphFault) → Result B GraphFault
and_then (Ok a) next = next a
and_then (Err fault) next = Err fault

-- the ends of a line of this number, behind those of the lines before and of the words before; it is judged word by word, and has as many as a
-- passive node has ports
abbrev pub line_from : Degrees → ℕ → List (List GraphEnd) → List GraphEnd → List (List ℕ) → Result (List GraphEnd) GraphFault
line_from degrees number passive ends [] = if length ends == degrees.passive then Ok ends else Err (Text (WrongDegree number))
line_from degrees number passive ends (word ∷ words) =
    and_then (judged_word degrees number passive ends (end_on word)) (λ here. line_from degrees number passive (ends ++ here ∷ []) words)

-- ---- all lines
-- the greatest number of a node, where nodes count from 1
abbrev pub nodes_on : List GraphEnd → ℕ
nodes_on [] = 0
nodes_on (here ∷ ends) = max (here.node + 1) (nodes_on ends)

abbrev pub nodes_in : List (List GraphEnd) → ℕ
nodes_in [] = 0
nodes_in (ends ∷ passive) = max (nodes_on ends) (nodes_in passive)

-- the graph with these passive nodes, and the active nodes up to the greatest one that stands
abbrev pub graph_with : Degrees → List (List GraphEnd) → PortGraph
graph_with degrees passive = record { active_degree = degrees.active; passive_degree = degrees.passive; nodes = nodes_in passive; passive = passive }

-- behind the lines each end of each node stands; this is the number of the line that would come next
abbrev pub whole_graph : Degrees → ℕ → List (List GraphEnd) → Result PortGraph GraphFault
whole_graph degrees number passive = if not (is_nil passive) && is_graph (graph_with degrees passive) then Ok (graph_with degrees passive) else Err (EndMissing number)

-- the graph of the lines behind these passive nodes, of which the first has this number, or the first fault
abbrev pub graph_from : Degrees → ℕ → List (List GraphEnd) → List (List ℕ) → Result PortGraph GraphFault
graph_from degrees number passive [] = whole_graph degrees number passive
graph_from degrees number passive (line ∷ lines) =
    if is_empty_line line then graph_from degrees (number + 1) passive lines
    else if is_section line then Err (Text (BadSection number))
    else and_then (line_from degrees number passive [] (words_of line)) (λ ends. graph_from degrees (number + 1) (passive ++ ends ∷ []) lines)
