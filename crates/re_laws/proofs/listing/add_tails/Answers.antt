use Rattle.std.proofs.Common.{◌≡◌, map, ap, ◌∙◌}
use Rattle.re_laws.specs.Shown.{tree_of_branch, tree_of_children}
use Rattle.re_laws.specs.Trees.{more}
use Rattle.re_laws.proofs.ListCode.{sent_all, sent_more}
use Rattle.re_laws.proofs.ShiftCode.{put-children}
use Rattle.re_laws.proofs.listing.add_tails.Goals as goal

pub loop-tail-preserved : goal.loop-tail-preserved
loop-tail-preserved c =
    let built : tree_of_children c.insert.new.self.items ≡ more c.args.back tt (tree_of_branch c.args.branch.now) (tree_of_children c.tail-item.result.items) =
    ap tree_of_children c.in_ok-insert.ensures.items
    ∙ (put-children 0 (record { back = c.args.back; payload = tt; branch = c.in_ok-branch.branch }) c.in_ok-list.list.items
    ∙ (ap (λ b. more c.args.back tt b (tree_of_children c.in_ok-list.list.items)) c.in_ok-branch.ensures
    ∙ ap (more c.args.back tt (tree_of_branch c.args.branch.now)) c.in_ok-list.ensures)) in
    rw c.in_ok-push.ensures.items
    (sent_more (λ children. tree_of_children children.items) (more c.args.back tt (tree_of_branch c.args.branch.now)) c.loop-tail.lists.items c.args.lists.now.items c.args.tails.now.items c.deref-tail-items.result.now c.loop-tail.tail-index c.tail-item.result c.insert.new.self
    c.deref-tail-items.ensures.value c.loop-tail-test.true c.tail-item.is c.loop-tail.invariant built)

pub returns : goal.returns
returns c =
    sent_all (λ children. tree_of_children children.items) (map (more c.args.back tt (tree_of_branch c.args.branch.now))) (map (λ children. tree_of_children children.items) c.loop-tail.lists.items) (map (λ children. tree_of_children children.items) c.args.lists.now.items)
    c.args.tails.now.items c.deref-tail-items.result.now c.loop-tail.tail-index c.deref-tail-items.ensures.value c.loop-tail-test.false c.loop-tail.invariant
