-- Finite graphs with port numbers, where an edge may lead from a node to itself, and solutions on them.
use Rattle.std.specs.Prelude.{◌≡◌, ℕ, suc, pred, ◌≤◌, ◌<◌, Bool, ◌&&◌, ◌==◌, List, [], ◌∷◌, length, map, if◌then◌else◌, slice_index_or}
use Rattle.std.specs.List.{AllByRecursion, list_any}
use Rattle.re_cover.specs.declared.ends.GraphEnd.{GraphEnd}
use Rattle.re_laws.specs.Algorithms.{at_port}
use Rattle.re_problem.specs.Problems.{Problem}
use Rattle.re_labels.specs.Constraints.{Has}

-- what stands past the end of a list of ends
abbrev pub no_end : GraphEnd
no_end = record { node = 0; port = 0 }

-- the degrees, how many active nodes there are, and for each passive node the ends of active nodes at its ports, in order
pub record PortGraph : Type 0 where
  pub active_degree : ℕ
  pub passive_degree : ℕ
  pub nodes : ℕ
  pub passive : List (List GraphEnd)

-- an end of a node with a number below that, of this degree
pub record IsEndOf (nodes degree : ℕ) (here : GraphEnd) : Type 0 where
  pub node : here.node < nodes
  pub least : 1 ≤ here.port
  pub most : here.port ≤ degree

-- an end of an active node, and one of a passive node
abbrev pub IsActiveEnd : PortGraph → GraphEnd → Type 0
IsActiveEnd graph here = IsEndOf graph.nodes graph.active_degree here

abbrev pub IsPassiveEnd : PortGraph → GraphEnd → Type 0
IsPassiveEnd graph here = IsEndOf (length graph.passive) graph.passive_degree here

-- the end of an active node that stands at this one of a passive node
abbrev pub active_end : PortGraph → GraphEnd → GraphEnd
active_end graph here = slice_index_or (slice_index_or graph.passive here.node []) (pred here.port) no_end

-- each passive node has as many ends as its degree, all of them of active nodes, and each end of an active node stands at one port of one
-- passive node
pub record IsGraph (graph : PortGraph) : Type 0 where
  pub count : AllByRecursion (λ ends. length ends ≡ graph.passive_degree) graph.passive
  pub ends : AllByRecursion (AllByRecursion (IsActiveEnd graph)) graph.passive
  pub each : (here : GraphEnd) → IsActiveEnd graph here → (there : GraphEnd) × IsPassiveEnd graph there × (active_end graph there ≡ here)
  pub once : (there other : GraphEnd) → IsPassiveEnd graph there → IsPassiveEnd graph other → active_end graph there ≡ active_end graph other → there ≡ other

-- whether the two ends are equal
abbrev pub same_end : GraphEnd → GraphEnd → Bool
same_end here other = here.node == other.node && here.port == other.port

-- the place of the first one that is equal
abbrev pub place_among : List GraphEnd → GraphEnd → ℕ
place_among [] here = 0
place_among (other ∷ ends) here = if same_end other here then 0 else suc (place_among ends here)

-- the port of the first passive node at which the end stands, where passive nodes count on from this number
abbrev pub standing_from : ℕ → List (List GraphEnd) → GraphEnd → GraphEnd
standing_from number [] here = no_end
standing_from number (ends ∷ passive) here =
    if list_any (λ other. same_end other here) ends then record { node = number; port = suc (place_among ends here) } else standing_from (suc number) passive here

-- the end of a passive node at which this one of an active node stands
abbrev pub passive_end : PortGraph → GraphEnd → GraphEnd
passive_end graph here = standing_from 0 graph.passive here

-- the graph is one for this problem: it has the problem's degrees
pub record IsGraphOf (problem : Problem) (graph : PortGraph) : Type 0 where
  pub is_graph : IsGraph graph
  pub active_degree : graph.active_degree ≡ problem.active.degree
  pub passive_degree : graph.passive_degree ≡ problem.passive.degree

-- the label at an end, where each active node has a list of labels, in the order of its ports
abbrev pub label_at : List (List ℕ) → GraphEnd → ℕ
label_at labels here = at_port (slice_index_or labels here.node []) here.port

-- labels for each active node that it may have, so that each passive node has at its ends what it may have; the number of labels of a node
-- is that of each of its configurations
pub record IsSolution (problem : Problem) (graph : PortGraph) (labels : List (List ℕ)) : Type 0 where
  pub count : length labels ≡ graph.nodes
  pub active : AllByRecursion (Has problem.active) labels
  pub passive : AllByRecursion (λ ends. Has problem.passive (map (label_at labels) ends)) graph.passive
