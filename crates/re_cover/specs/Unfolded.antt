-- The views of the nodes of a graph: what they see of the tree that covers it.
use Rattle.std.specs.Prelude.{ℕ, zero, suc, map}
use Rattle.re_cover.specs.declared.ends.GraphEnd.{GraphEnd}
use Rattle.re_cover.specs.Graphs.{PortGraph, active_end, passive_end}
use Rattle.re_labels.specs.Lists.{count_from}
use Rattle.re_laws.specs.Algorithms.{Plain}
use Rattle.re_laws.specs.Ends.{branchwise}
use Rattle.re_laws.specs.Trees.{leaf}

-- the view of a radius of a node of degree d, where `over` leads over an edge from an end on its side to the one on the other side, whose
-- nodes have degree e, and `back` leads back: child q has as back port the port to which the edge of port q leads, and behind it stands the
-- view of that port's node without this port
abbrev pub unfolded : (GraphEnd → GraphEnd) → (GraphEnd → GraphEnd) → ℕ → ℕ → ℕ → ℕ → Plain
unfolded over back d e zero node = leaf
unfolded over back d e (suc t) node =
    branchwise (map (λ port. record {
      view = unfolded back over e d t (over (record { node = node; port = port })).node;
      port = (over (record { node = node; port = port })).port;
    }) (count_from 1 d))

-- the view of an active node
abbrev pub active_view : PortGraph → ℕ → ℕ → Plain
active_view graph radius node = unfolded (passive_end graph) (active_end graph) graph.active_degree graph.passive_degree radius node

-- the view of a passive node
abbrev pub passive_view : PortGraph → ℕ → ℕ → Plain
passive_view graph radius node = unfolded (active_end graph) (passive_end graph) graph.passive_degree graph.active_degree radius node
