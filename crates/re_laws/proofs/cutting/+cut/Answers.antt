use Rattle.std.proofs.Common.{◌≡◌, suc, ◌-◌, sym, ap, ◌∙◌, arith}
use Rattle.re_laws.specs.Trees.{cut}
use Rattle.re_laws.specs.Shown.{tree_of_branch, tree_of_children}
use Rattle.re_laws.proofs.ShownLemmas.{mapped_all, mapped_more, mapped-cut, tree_of_branch-Node}
use Rattle.re_laws.proofs.cutting.+cut.Goals as goal

pub cut_branch-returns-in_ok-kept-in-Node : goal.cut_branch-returns-in_ok-kept-in-Node
cut_branch-returns-in_ok-kept-in-Node g t c =
    tree_of_branch-Node c.in_ok-kept-in-Node.kept ∙ (c.in_ok-kept-in-Node.ensures ∙ sym (ap (cut c.args.depth) (ap tree_of_branch c.in-Node.is ∙ tree_of_branch-Node c.in-Node.children)))

pub cut_children-loop-child-preserved : goal.cut_children-loop-child-preserved
cut_children-loop-child-preserved g t c =
    rw c.in_ok-push.ensures.items (mapped_more (cut (c.args.depth - 1)) c.loop-child.kept.items c.args.children.now.items c.deref-child-items.result.now c.loop-child.child-index c.child-item.result c.in_ok-branch.branch
    c.deref-child-items.ensures.value c.loop-child-test.true c.child-item.is c.loop-child.invariant c.in_ok-branch.ensures)

pub cut_children-returns : goal.cut_children-returns
cut_children-returns g t c =
    let some = c.requires in
    let depth : suc (c.args.depth - 1) ≡ c.args.depth = omega arith in
    mapped_all (cut (c.args.depth - 1)) c.loop-child.kept.items c.args.children.now.items c.deref-child-items.result.now c.loop-child.child-index c.deref-child-items.ensures.value c.loop-child-test.false c.loop-child.invariant
    ∙ (mapped-cut (c.args.depth - 1) (tree_of_children c.args.children.now.items) ∙ ap (λ n. cut n (tree_of_children c.args.children.now.items)) depth)
