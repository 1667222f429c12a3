use Rattle.std.proofs.Common.{pred, arith, sym, ap, ◌∙◌}
use Rattle.re_laws.specs.Trees.{cut}
use Rattle.re_laws.specs.Shown.{tree_of_children}
use Rattle.re_laws.proofs.ShownLemmas.{first_none, first_some, mapped_all, mapped_more, mapped-cut, tree_of_branch-Node}
use Rattle.re_laws.proofs.shifting.+cut_like.Goals as goal

pub cut_like-returns-in-None : goal.cut_like-returns-in-None
cut_like-returns-in-None g t c = λ d e t' n two two' one is.
    absurd (first_none d e t' n c.in-Node.below.items (rw c.deref.ensures.value at c.in-None.ensures.value) one (rw (tree_of_branch-Node c.in-Node.below) at (rw c.in-Node.is at is)))

pub cut_like-returns-in_ok-kept-in-Some : goal.cut_like-returns-in_ok-kept-in-Some
cut_like-returns-in_ok-kept-in-Some g t c = λ d e t' n two two' one is.
    let (u, deeper, first) = first_some d e t' n c.in-Node.below.items c.in-Some.first.now (rw c.deref.ensures.value at c.in-Some.ensures.value) (rw (tree_of_branch-Node c.in-Node.below) at (rw c.in-Node.is at is)) in
    tree_of_branch-Node c.in_ok-kept-in-Some.kept ∙ (c.in_ok-kept-in-Some.ensures e d u (pred e) two' two (omega arith) first ∙ ap (λ m. cut m (tree_of_children c.args.children.now.items)) (sym deeper))

pub cut_each-loop-child-preserved : goal.cut_each-loop-child-preserved
cut_each-loop-child-preserved g t c = λ d e t' n two two' one is.
    rw c.in_ok-push.ensures.items (mapped_more (cut t') c.loop-child.kept.items c.args.children.now.items c.deref-child-items.result.now c.loop-child.child-index c.child-item.result c.in_ok-branch.branch
    c.deref-child-items.ensures.value c.loop-child-test.true c.child-item.is (c.loop-child.invariant d e t' n two two' one is) (c.in_ok-branch.ensures d e t' n two two' one is))

pub cut_each-returns : goal.cut_each-returns
cut_each-returns g t c = λ d e t' n two two' one is.
    mapped_all (cut t') c.loop-child.kept.items c.args.children.now.items c.deref-child-items.result.now c.loop-child.child-index c.deref-child-items.ensures.value c.loop-child-test.false (c.loop-child.invariant d e t' n two two' one is)
    ∙ mapped-cut t' (tree_of_children c.args.children.now.items)

pub cut_branch_like-returns-in-Node : goal.cut_branch_like-returns-in-Node
cut_branch_like-returns-in-Node g t c = rw (c.in-Node.is, tree_of_branch-Node c.in-Node.children) c.cut_like.ensures
