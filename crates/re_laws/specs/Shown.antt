-- The trees that branches, lists of children and views are.
use Rattle.std.specs.Prelude.{ℕ, ◌-◌, ◌≤◌, List, [], ◌∷◌}
use Rattle.re_laws.specs.declared.Branch.{Branch, Leaf, Node', Row_of-Child, end_of-Child, more_of-Child}
use Rattle.re_laws.specs.declared.Child.{Child}
use Rattle.re_laws.specs.declared.View.{View}
use Rattle.re_laws.specs.declared.View.TheVariants as view
use Rattle.re_laws.specs.Trees.{Tree, leaf, end, more, IsTree}

-- a branch of the program as a tree, by the list of its children
abbrev mutual
  pub tree_of_branch : {E : Type 0} → Branch E → Tree E
  tree_of_branch Leaf = leaf
  tree_of_branch (Node' shape row) = tree_of_row row

  pub tree_of_row : {E : Type 0} {m : _} → Row_of-Child E m → Tree E
  tree_of_row end_of-Child = end
  tree_of_row (more_of-Child back payload branch rest) = more back payload (tree_of_branch branch) (tree_of_row rest)

-- a list of children as a tree
abbrev pub tree_of_children : {E : Type 0} → List (Child E) → Tree E
tree_of_children [] = end
tree_of_children (child ∷ children) = more child.back child.payload (tree_of_branch child.branch) (tree_of_children children)

-- a view of the program as a tree
abbrev pub tree_of_view : {E : Type 0} → View E → Tree E
tree_of_view view.Leaf = leaf
tree_of_view (view.Node children) = tree_of_children children.items

-- a child whose node has degree d and whose branch has this depth
abbrev pub IsShownChild : {E : Type 0} → ℕ → ℕ → ℕ → Child E → Type 0
IsShownChild d e depth child =
    (1 ≤ child.back) × (child.back ≤ d) × IsTree d e depth (d - 1) (tree_of_branch child.branch)
