use Rattle.std.proofs.Common.{take, ℕ, ◌≡◌, ◌≤◌}
use Rattle.re_laws.specs.Trees.{IsTree, cut}
use Rattle.re_laws.specs.Shown.{tree_of_branch, tree_of_children}
use Rattle.re_laws.proofs.ShownLemmas.{mapped}
use Rattle.re_laws.proofs.shifting.+cut_like.Given as goal

abbrev pub invariant-cut_each-loop-child : goal.invariant-cut_each-loop-child
invariant-cut_each-loop-child g l = (d e t n : ℕ) → 2 ≤ d → 2 ≤ e → 1 ≤ n → IsTree d e t n (tree_of_branch l.rule) →
    tree_of_children l.kept.items ≡ mapped (cut t) (tree_of_children (take l.child-index l.children.items))
