use Rattle.std.proofs.Common.{◌≡◌, pred, sym, ap, ◌∙◌, sub-one}
use Rattle.re_laws.specs.Trees.{grown}
use Rattle.re_laws.specs.Shown.{tree_of_branch, tree_of_children}
use Rattle.re_laws.proofs.ShownLemmas.{mapped, mapped_all, mapped_more, mapped-grown, tree_of_branch-Node}
use Rattle.re_laws.proofs.padding.+grow.Goals as goal

pub grow_branch-returns-in_ok-children-in-Node : goal.grow_branch-returns-in_ok-children-in-Node
grow_branch-returns-in_ok-children-in-Node g t c =
    tree_of_branch-Node c.in_ok-children-in-Node.children ∙ (c.in_ok-children-in-Node.ensures c.args.ports ∙ sym (ap (grown c.args.own c.args.other c.args.depth c.args.ports c.args.fill) (ap tree_of_branch c.in-Node.is ∙ tree_of_branch-Node c.in-Node.children)))

pub grow_children-loop-child-preserved : goal.grow_children-loop-child-preserved
grow_children-loop-child-preserved g t c =
    rw c.in_ok-push.ensures.items (mapped_more (grown c.args.other c.args.own c.saturating_sub-below.result c.saturating_sub-ports.result c.args.fill) c.loop-child.answer.items c.args.children.now.items c.deref-child-items.result.now c.loop-child.child-index c.child-item.result c.in_ok-branch.branch
    c.deref-child-items.ensures.value c.loop-child-test.true c.child-item.is c.loop-child.invariant c.in_ok-branch.ensures)

pub grow_children-returns : goal.grow_children-returns
grow_children-returns g t c = λ n.
    let below : c.saturating_sub-below.result ≡ pred c.args.depth = c.saturating_sub-below.ensures ∙ sub-one c.args.depth in
    let ports : c.saturating_sub-ports.result ≡ pred c.args.other = c.saturating_sub-ports.ensures ∙ sub-one c.args.other in
    mapped_all (grown c.args.other c.args.own c.saturating_sub-below.result c.saturating_sub-ports.result c.args.fill) c.loop-child.answer.items c.args.children.now.items c.deref-child-items.result.now c.loop-child.child-index c.deref-child-items.ensures.value c.loop-child-test.false c.loop-child.invariant
    ∙ (ap (λ u. mapped (grown c.args.other c.args.own u c.saturating_sub-ports.result c.args.fill) (tree_of_children c.args.children.now.items)) below
    ∙ (ap (λ m. mapped (grown c.args.other c.args.own (pred c.args.depth) m c.args.fill) (tree_of_children c.args.children.now.items)) ports
    ∙ mapped-grown c.args.own c.args.other c.args.depth n c.args.fill c.args.children.now.items))
