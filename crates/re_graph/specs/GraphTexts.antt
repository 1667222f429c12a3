-- The text of a graph: a line for each passive node.
use Rattle.std.specs.Prelude.{ℕ, ◌+◌, List, [], ◌∷◌, ◌++◌}
use Rattle.std.specs.Fmt.{decimal}
use Rattle.re_cover.specs.declared.ends.GraphEnd.{GraphEnd}
use Rattle.re_cover.specs.Graphs.{PortGraph}

-- an end: the number of its node, where nodes count from 1, a dot, and its port
abbrev pub end_text : GraphEnd → List ℕ
end_text here = decimal (here.node + 1) ++ 46 ∷ decimal here.port

-- further ends, each behind a blank
abbrev pub others_text : List GraphEnd → List ℕ
others_text [] = []
others_text (here ∷ ends) = (32 ∷ end_text here) ++ others_text ends

-- the ends at a passive node, in the order of its ports
abbrev pub line_text : List GraphEnd → List ℕ
line_text [] = []
line_text (here ∷ ends) = end_text here ++ others_text ends

-- a line for each passive node
abbrev pub lines_text : List (List GraphEnd) → List ℕ
lines_text [] = []
lines_text (ends ∷ passive) = (line_text ends ++ 10 ∷ []) ++ lines_text passive

abbrev pub graph_text : PortGraph → List ℕ
graph_text graph = lines_text graph.passive
