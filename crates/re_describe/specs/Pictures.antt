-- Pictures of finite graphs for LaTeX, drawn by TikZ: active nodes as circles on a circle, passive ones as squares near the middle of their ends, and a
-- line for each end, with the port of the passive node near the square and that of the active node near the circle.
use Rattle.std.specs.Prelude.{ℕ, ◌+◌, List, [], ◌∷◌, ◌++◌, codes, flat_map, length}
use Rattle.std.specs.Fmt.{decimal}
use Rattle.re_cover.specs.Graphs.{PortGraph}
use Rattle.re_cover.specs.declared.ends.GraphEnd.{GraphEnd}
use Rattle.re_labels.specs.Lists.{count_from}

-- an active node, of so many
abbrev pub active_drawing : ℕ → ℕ → List ℕ
active_drawing nodes node =
    (codes "\\node[circle, draw] (" ++ decimal (node + 1)) ++ ((codes ") at (360*" ++ decimal node) ++ ((codes "/" ++ decimal nodes)
    ++ (codes ":4) {" ++ (decimal (node + 1) ++ codes "};\n"))))

-- the active node of an end, as heavy as the others
abbrev pub weight : GraphEnd → List ℕ
weight here = decimal (here.node + 1) ++ codes "=1"

-- those of all ends
abbrev pub weights : List GraphEnd → List ℕ
weights [] = []
weights (here ∷ ends) = weight here ++ flat_map (λ other. 44 ∷ weight other) ends

-- that a passive node stands in the middle of its ends
abbrev pub middle : List GraphEnd → List ℕ
middle ends = codes ") at (barycentric cs:" ++ (weights ends ++ codes ") {};\n")

-- a passive node, of so many: away from the middle of its ends, each one in another direction
abbrev pub passive_drawing : ℕ → ℕ → List GraphEnd → List ℕ
passive_drawing places place ends =
    (codes "\\node[rectangle, draw, inner sep=2pt, shift={(360*" ++ decimal place) ++ ((codes "/" ++ decimal places) ++ ((codes ":1.6)}] (p" ++ decimal (place + 1))
    ++ middle ends))

-- the line to the end at a port of the passive node; each port bends it in another way, so that the lines to one node are apart
abbrev pub end_drawing : ℕ → ℕ → GraphEnd → List ℕ
end_drawing place port here =
    (codes "\\draw (p" ++ decimal (place + 1)) ++ ((codes ") to[bend left=50*" ++ decimal port) ++ ((codes "-25] node[port, near start] {" ++ decimal (port + 1))
    ++ ((codes "} node[port, near end] {" ++ decimal here.port) ++ (codes "} (" ++ (decimal (here.node + 1) ++ codes ");\n")))))

-- the lines to these ends, from the port with this number, from 0, on
abbrev pub ends_drawing : ℕ → ℕ → List GraphEnd → List ℕ
ends_drawing place port [] = []
ends_drawing place port (here ∷ ends) = end_drawing place port here ++ ends_drawing place (port + 1) ends

-- passive nodes with their lines, from this place on
abbrev pub passive_drawings : ℕ → ℕ → List (List GraphEnd) → List ℕ
passive_drawings places place [] = []
passive_drawings places place (ends ∷ passive) = (passive_drawing places place ends ++ ends_drawing place 0 ends) ++ passive_drawings places (place + 1) passive

abbrev pub picture : PortGraph → List ℕ
picture graph =
    codes "% The package tikz draws this.\n\\begin{center}\n\\begin{tikzpicture}[font=\\scriptsize, port/.style={fill=white, inner sep=1pt}]\n"
    ++ (flat_map (active_drawing graph.nodes) (count_from 0 graph.nodes)
    ++ (passive_drawings (length graph.passive) 0 graph.passive ++ codes "\\end{tikzpicture}\n\\end{center}\n"))
