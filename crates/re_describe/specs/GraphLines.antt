-- A finite graph in a report: what stands behind the ports of its nodes.
use Rattle.std.specs.Prelude.{ℕ, ◌+◌, ◌==◌, List, [], ◌∷◌, ◌++◌, codes, flat_map, if◌then◌else◌, length}
use Rattle.std.specs.Fmt.{decimal}
use Rattle.std.specs.List.{list_any}
use Rattle.re_cover.specs.Graphs.{PortGraph, same_end}
use Rattle.re_cover.specs.declared.ends.GraphEnd.{GraphEnd}
use Rattle.re_graph.specs.GraphTexts.{end_text}
use Rattle.re_labels.specs.Lists.{count_from}

-- the ends of a passive node but this one, each behind a blank
abbrev pub other_ends : List GraphEnd → GraphEnd → List ℕ
other_ends ends here = flat_map (λ other. if same_end other here then [] else 32 ∷ end_text other) ends

-- what stands behind an end of an active node: the other ends of the passive node that has it
abbrev pub behind : List (List GraphEnd) → GraphEnd → List ℕ
behind [] here = []
behind (ends ∷ passive) here = if list_any (λ other. same_end other here) ends then other_ends ends here else behind passive here

-- a port of a node, and what stands behind it
abbrev pub before_port : ℕ → List ℕ
before_port port = if port == 1 then codes ": port " else codes ", port "

abbrev pub port_text : List (List GraphEnd) → ℕ → ℕ → List ℕ
port_text passive node port = before_port port ++ (decimal port ++ (codes " to" ++ behind passive (record { node = node; port = port })))

-- a node with its ports, as a line that stands as it is
abbrev pub node_line : List (List GraphEnd) → ℕ → ℕ → List ℕ
node_line passive degree node = (codes "    node " ++ decimal (node + 1)) ++ (flat_map (λ place. port_text passive node (place + 1)) (count_from 0 degree) ++ codes "\n")

-- the title of a graph of so many active and passive nodes
abbrev pub title_of : ℕ → ℕ → List ℕ
title_of nodes passive =
    (codes "\n## Finite graph\n\n- active nodes: " ++ decimal nodes) ++ (codes "\n- passive nodes: " ++ (decimal passive
    ++ codes "\n\nThe active nodes, and behind each of their ports the other ends of its passive node, where `2.1` is port 1 of node 2:\n\n"))

-- the graph: its numbers, and its active nodes
abbrev pub nodes_text : PortGraph → List ℕ
nodes_text graph = title_of graph.nodes (length graph.passive) ++ flat_map (node_line graph.passive graph.active_degree) (count_from 0 graph.nodes)
