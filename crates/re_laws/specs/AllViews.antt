-- All views of a radius, in lexicographic order of their back ports in preorder.
use Rattle.std.specs.Prelude.{ℕ, zero, suc, pred, List, [], ◌∷◌, ◌++◌, map, flat_map}
use Rattle.re_labels.specs.Lists.{count_from}
use Rattle.re_laws.specs.Trees.{Tree, leaf, end, more}

-- all lists of n children, each with a back port from 1 to e and one of these branches
abbrev pub all_children : ℕ → List (Tree (Unit {0})) → ℕ → List (Tree (Unit {0}))
all_children e branches zero = end ∷ []
all_children e branches (suc n) =
    flat_map (λ back. flat_map (λ branch. map (more back tt branch) (all_children e branches n)) branches) (count_from 1 e)

-- all trees that show n ports to that depth
abbrev pub all_trees : ℕ → ℕ → ℕ → ℕ → List (Tree (Unit {0}))
all_trees d e zero n = leaf ∷ []
all_trees d e (suc t) n = all_children e (all_trees e d t (pred e)) n

-- all views of that radius of a node of degree d whose neighbours have degree e
abbrev pub all_views : ℕ → ℕ → ℕ → List (Tree (Unit {0}))
all_views d e radius = all_trees d e radius d

-- the back ports of a tree in preorder: each before those of the branch behind it
abbrev pub preorder : {E : Type 0} → Tree E → List ℕ
preorder leaf = []
preorder end = []
preorder (more back payload branch rest) = back ∷ (preorder branch ++ preorder rest)
