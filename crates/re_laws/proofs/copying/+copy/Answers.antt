use Rattle.std.proofs.Common.{sym, ap, ◌∙◌}
use Rattle.re_laws.specs.Shown.{tree_of_branch, tree_of_children}
use Rattle.re_laws.proofs.ShownLemmas.{mapped_all, mapped_more, mapped-same, tree_of_branch-Node}
use Rattle.re_laws.proofs.copying.+copy.Goals as goal

pub copy_branch-returns-in_ok-copies-in-Node : goal.copy_branch-returns-in_ok-copies-in-Node
copy_branch-returns-in_ok-copies-in-Node g t c =
    tree_of_branch-Node c.in_ok-copies-in-Node.copies ∙ (c.in_ok-copies-in-Node.ensures ∙ sym (ap tree_of_branch c.in-Node.is ∙ tree_of_branch-Node c.in-Node.children))

pub copy_children-loop-child-preserved : goal.copy_children-loop-child-preserved
copy_children-loop-child-preserved g t c =
    rw c.in_ok-push.ensures.items (mapped_more (λ x. x) c.loop-child.copies.items c.args.children.now.items c.deref-child-items.result.now c.loop-child.child-index c.child-item.result c.in_ok-branch.branch
    c.deref-child-items.ensures.value c.loop-child-test.true c.child-item.is c.loop-child.invariant c.in_ok-branch.ensures)

pub copy_children-returns : goal.copy_children-returns
copy_children-returns g t c =
    mapped_all (λ x. x) c.loop-child.copies.items c.args.children.now.items c.deref-child-items.result.now c.loop-child.child-index c.deref-child-items.ensures.value c.loop-child-test.false c.loop-child.invariant
    ∙ mapped-same (tree_of_children c.args.children.now.items)
