-- Input problems of the field: sides, colourings of edges, orientations.
use Rattle.std.specs.Prelude.{ℕ, ◌==◌, Bool, true, List, length, filter, count_by}
use Rattle.re_labels.specs.Configs.{support_of}
use Rattle.re_labels.specs.Orders.{multisets}
use Rattle.re_given.specs.Inputs.{exchanged}
use Rattle.re_given.specs.Unavoidable.{colouring}
use Rattle.re_problem.specs.Problems.{Problem}

-- the problem of n labels and of these degrees that has all multisets which pass the test of their side
abbrev pub tested : ℕ → (List ℕ → Bool) → (List ℕ → Bool) → ℕ → ℕ → Problem
tested n active passive a p = record {
  labels = n;
  active = record { degree = a; configs = filter active (multisets a 0 n) };
  passive = record { degree = p; configs = filter passive (multisets p 0 n) };
}

-- the two sides of a bipartite graph whose edges are the passive nodes
abbrev pub sides : ℕ → Problem
sides a = colouring a 2 2

-- a proper colouring of the edges with as many colours as the active degree: an active node has an edge of each colour, and the edges of a
-- passive node have one colour
abbrev pub coloured_edges : ℕ → ℕ → Problem
coloured_edges a p = tested a (λ edges. length (support_of edges) == length edges) (λ edges. length (support_of edges) == 1) a p

-- a proper colouring of the passive nodes with c colours, of edges where p is 2: the edges of a passive node have one label, its colour, and those
-- of an active node different ones
abbrev pub edge_colouring : ℕ → ℕ → ℕ → Problem
edge_colouring a p c = exchanged (colouring p a c)

-- whether exactly one of the edges leads out of its active node: it has label 1, and an edge that leads into it label 0
abbrev pub one_out : List ℕ → Bool
one_out edges = count_by (λ x. x == 1) edges == 1

-- an orientation: of the edges of a passive node exactly one leads out of its active node
abbrev pub oriented : ℕ → ℕ → Problem
oriented a p = tested 2 (λ edges. true) one_out a p

-- an orientation by which edges lead into each active node and out of it
abbrev pub oriented_both : ℕ → ℕ → Problem
oriented_both a p = tested 2 (λ edges. length (support_of edges) == 2) one_out a p
