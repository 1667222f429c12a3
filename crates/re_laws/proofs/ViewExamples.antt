-- Views of nodes with degrees 3 and 2, by computation.
use Rattle.std.proofs.Common.{◌≡◌, [], ◌∷◌, length, map, refl}
use Rattle.re_laws.specs.AllViews.{all_views, preorder}
use Rattle.re_laws.specs.Trees.{Tree, leaf, end, more, cut, pad, shift}

-- a node of degree 3 whose neighbours have degree 2 has 1, 8 and 216 views of radius 0, 1 and 2
active_views : length (all_views 3 2 0) ∷ length (all_views 3 2 1) ∷ length (all_views 3 2 2) ∷ [] ≡ 1 ∷ 8 ∷ 216 ∷ []
active_views = refl

-- and a node of degree 2 whose neighbours have degree 3 has 1, 9 and 144
passive_views : length (all_views 2 3 0) ∷ length (all_views 2 3 1) ∷ length (all_views 2 3 2) ∷ [] ≡ 1 ∷ 9 ∷ 144 ∷ []
passive_views = refl

-- a view of radius 2 of a node of degree 2: its first neighbour gives the edge the number 3, its second one the number 1
abbrev sight : Tree (Unit {0})
sight = more 3 tt (more 1 tt leaf (more 2 tt leaf end)) (more 1 tt (more 2 tt leaf (more 2 tt leaf end)) end)

-- the first neighbour, at whose port 3 the node stands, and which the node's port 1 leads to, sees this
over_first : shift 1 sight 1 ≡ more 1 tt leaf (more 2 tt leaf (more 1 tt leaf end))
over_first = refl

cut_to_one : cut 1 sight ≡ more 3 tt leaf (more 1 tt leaf end)
cut_to_one = refl

-- the leaf grown to radius 1
grown_leaf : pad {E = Unit {0}} 3 2 1 tt leaf ≡ more 1 tt leaf (more 1 tt leaf (more 1 tt leaf end))
grown_leaf = refl

-- the views of radius 1 of a node of degree 2 whose neighbours have degree 3, in order
passive_order : map preorder (all_views 2 3 1) ≡
    (1 ∷ 1 ∷ []) ∷ (1 ∷ 2 ∷ []) ∷ (1 ∷ 3 ∷ []) ∷ (2 ∷ 1 ∷ []) ∷ (2 ∷ 2 ∷ []) ∷ (2 ∷ 3 ∷ []) ∷ (3 ∷ 1 ∷ []) ∷ (3 ∷ 2 ∷ []) ∷ (3 ∷ 3 ∷ []) ∷ []
passive_order = refl

-- each back port comes before those of the branch behind it
sight_order : preorder sight ≡ 3 ∷ 1 ∷ 2 ∷ 1 ∷ 2 ∷ 2 ∷ []
sight_order = refl
