use Rattle.std.proofs.Common.{map}
use Rattle.std.specs.Prelude.{flat_map}
use Rattle.re_laws.specs.Shown.{tree_of_branch, tree_of_children}
use Rattle.re_laws.specs.Trees.{more}
use Rattle.re_laws.proofs.ListCode.{sent_all, spread_more}
use Rattle.re_laws.proofs.listing.add_lists.Goals as goal

pub loop-branch-preserved : goal.loop-branch-preserved
loop-branch-preserved c =
    spread_more tree_of_branch (λ branch. map (more c.args.back tt branch) (map (λ children. tree_of_children children.items) c.args.tails.now.items)) (map (λ children. tree_of_children children.items) c.loop-branch.lists.items) (map (λ children. tree_of_children children.items) c.add_tails.new.lists.items) (map (λ children. tree_of_children children.items) c.args.lists.now.items)
    c.args.branches.now.items c.deref-branch-items.result.now c.loop-branch.branch-index c.branch-item.result c.deref-branch-items.ensures.value c.loop-branch-test.true c.branch-item.is c.loop-branch.invariant c.in_ok-add_tails.ensures

pub returns : goal.returns
returns c =
    sent_all tree_of_branch (flat_map (λ branch. map (more c.args.back tt branch) (map (λ children. tree_of_children children.items) c.args.tails.now.items))) (map (λ children. tree_of_children children.items) c.loop-branch.lists.items) (map (λ children. tree_of_children children.items) c.args.lists.now.items)
    c.args.branches.now.items c.deref-branch-items.result.now c.loop-branch.branch-index c.deref-branch-items.ensures.value c.loop-branch-test.false c.loop-branch.invariant
