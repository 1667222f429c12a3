use Rattle.std.proofs.Common.{map, ◌∙◌, arith}
use Rattle.re_laws.specs.declared.Branch.{Node}
use Rattle.re_laws.specs.Shown.{tree_of_branch, tree_of_children}
use Rattle.re_laws.proofs.ListCode.{listed, shown_more}
use Rattle.re_laws.proofs.ShownLemmas.{tree_of_branch-Node}
use Rattle.re_laws.proofs.listing.+list.Goals as goal

pub all_branches-loop-children-preserved : goal.all_branches-loop-children-preserved
all_branches-loop-children-preserved t c =
    rw c.in_ok-push-2.ensures.items (shown_more tree_of_branch (λ children. tree_of_children children.items) c.loop-children.branches.items c.loop-children.yielded (Node c.in-Some.children) c.in-Some.children c.loop-children.invariant (tree_of_branch-Node c.in-Some.children))

pub all_lists-returns : goal.all_lists-returns
all_lists-returns t c =
    let past = c.loop-test.false in
    let within = c.loop.auto.counter-end in
    c.loop.invariant ∙ listed c.args.own c.args.other c.args.depth c.args.ports c.loop.counter c.saturating_sub.result (map tree_of_branch c.in_ok-branches.branches.items) c.requires (omega arith) c.saturating_sub.ensures c.in_ok-branches.ensures
