use Rattle.std.proofs.Common.{◌-◌, ◌*◌, ◌^◌, ◌∙◌, ap, min}
use Rattle.re_algo.proofs.CountCode.{read_all, read_more}
use Rattle.re_algo.specs.Counting.{read_after}
use Rattle.re_laws.specs.Shown.{tree_of_children}
use Rattle.re_laws.proofs.ShownLemmas.{tree_of_branch-Node}
use Rattle.re_algo.proofs.placing.+reading.Goals as goal

pub read_branch-returns-in-Node : goal.read_branch-returns-in-Node
read_branch-returns-in-Node t c = rw (c.in-Node.is, tree_of_branch-Node c.in-Node.children) c.read_children.ensures

pub read_children-loop-child-preserved : goal.read_children-loop-child-preserved
read_children-loop-child-preserved t c =
    read_more c.args.own c.args.other c.loop-child.number (read_after c.args.own c.args.other c.args.before (tree_of_children c.args.children.now.items)) c.from-digit.result c.saturating_mul.result c.saturating_add-place.result c.read_branch-number.result
    c.args.children.now.items c.deref-child-items.result.now c.loop-child.child-index c.child-item.result c.deref-child-items.ensures.value c.loop-child-test.true c.child-item.is
    (c.from-digit.ensures ∙ c.saturating_sub.ensures) (c.saturating_mul.ensures ∙ ap (λ n. min (c.loop-child.number * n) (2 ^ 64 - 1)) c.from.ensures) c.saturating_add-place.ensures c.read_branch-number.ensures c.loop-child.invariant

pub read_children-returns : goal.read_children-returns
read_children-returns t c =
    read_all c.args.own c.args.other c.loop-child.number (read_after c.args.own c.args.other c.args.before (tree_of_children c.args.children.now.items))
    c.args.children.now.items c.deref-child-items.result.now c.loop-child.child-index c.deref-child-items.ensures.value c.loop-child-test.false c.loop-child.invariant
