-- Views of neighbours of one node, joined into that node's view.
use Rattle.std.specs.Prelude.{◌≡◌, ℕ, suc, pred, ◌≤◌, ◌<◌, List, [], ◌∷◌, length, slice_index, slice_index_or}
use Rattle.re_laws.specs.Trees.{Tree, leaf, end, more, IsView, shift, others, backs}

-- a view with a port of it
pub record End : Type 0 where
  pub view : Tree (Unit {0})
  pub port : ℕ

-- what stands past the end of a list of ends
abbrev pub no_end : End
no_end = record { view = leaf; port = 0 }

-- the view whose child i has the port of end i as back port, and as branch the other children of its view
abbrev pub branchwise : List End → Tree (Unit {0})
branchwise [] = end
branchwise (here ∷ ends) = more here.port tt (others (pred here.port) here.view) (branchwise ends)

-- a view of radius t + 1 over whose port lies the view w, and back over whose port i lies this view
pub record IsEnd (d e t : ℕ) (w : Tree (Unit {0})) (i : ℕ) (here : End) : Type 0 where
  pub is_view : IsView d e (suc t) here.view
  pub least : 1 ≤ here.port
  pub most : here.port ≤ d
  pub back : slice_index (backs here.view) (pred here.port) ≡ i
  pub over : shift t here.view here.port ≡ w

-- one end for each port of a node of degree e, numbered from 1, and all over one view w
pub record AreEnds (d e t : ℕ) (w : Tree (Unit {0})) (ends : List End) : Type 0 where
  pub count : length ends ≡ e
  pub each : (k : ℕ) → k < e → IsEnd d e t w (suc k) (slice_index_or ends k no_end)
