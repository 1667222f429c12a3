-- The test whether something is a graph.
use Rattle.std.specs.Prelude.{ℕ, zero, suc, nat_le, nat_lt, ◌==◌, Bool, true, ◌&&◌, List, [], ◌∷◌, length, if◌then◌else◌, Option, Some, None}
use Rattle.std.specs.List.{list_all, list_any}
use Rattle.re_cover.specs.declared.ends.GraphEnd.{GraphEnd}
use Rattle.re_cover.specs.Graphs.{PortGraph, same_end, standing_from}
use Rattle.re_graph.specs.declared.graph.TheConstants.{MAX_NODES, MAX_PASSIVE}

-- whether an end is one of so many nodes of this degree
abbrev pub is_end_of : ℕ → ℕ → GraphEnd → Bool
is_end_of nodes degree here = nat_lt here.node nodes && nat_le 1 here.port && nat_le here.port degree

-- whether a passive node has so many ends, all of active nodes
abbrev pub are_ends : ℕ → ℕ → ℕ → List GraphEnd → Bool
are_ends nodes degree passive_degree ends = (length ends == passive_degree) && list_all (is_end_of nodes degree) ends

-- whether the end is one of some passive node
abbrev pub stands : List (List GraphEnd) → GraphEnd → Bool
stands passive here = list_any (λ ends. list_any (λ other. same_end other here) ends) passive

-- whether the first ports of a node stand somewhere, and all ports of the first nodes
abbrev pub ports_stand : List (List GraphEnd) → ℕ → ℕ → Bool
ports_stand passive node zero = true
ports_stand passive node (suc port) = stands passive (record { node = node; port = suc port }) && ports_stand passive node port

abbrev pub nodes_stand : List (List GraphEnd) → ℕ → ℕ → Bool
nodes_stand passive degree zero = true
nodes_stand passive degree (suc node) = ports_stand passive node degree && nodes_stand passive degree node

-- whether the ends from this port of the node on stand nowhere before it
abbrev pub ends_once : List (List GraphEnd) → ℕ → ℕ → List GraphEnd → Bool
ends_once passive node port [] = true
ends_once passive node port (here ∷ ends) = same_end (standing_from 0 passive here) (record { node = node; port = port }) && ends_once passive node (suc port) ends

-- the same of the ends of the nodes from this one on
abbrev pub nodes_once : List (List GraphEnd) → ℕ → List (List GraphEnd) → Bool
nodes_once passive node [] = true
nodes_once passive node (ends ∷ others) = ends_once passive node 1 ends && nodes_once passive (suc node) others

-- whether it is a graph, with degrees from 2 to 6 and not too many nodes
abbrev pub is_graph : PortGraph → Bool
is_graph graph =
    nat_le 2 graph.active_degree && nat_le graph.active_degree 6 && nat_le 2 graph.passive_degree && nat_le graph.passive_degree 6
    && nat_le graph.nodes MAX_NODES && nat_le (length graph.passive) MAX_PASSIVE
    && list_all (are_ends graph.nodes graph.active_degree graph.passive_degree) graph.passive
    && nodes_stand graph.passive graph.active_degree graph.nodes && nodes_once graph.passive 0 graph.passive

-- the graph, where it is one
abbrev pub graph_of : PortGraph → Option PortGraph
graph_of graph = if is_graph graph then Some graph else None
