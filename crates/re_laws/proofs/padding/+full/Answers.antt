use Rattle.std.proofs.Common.{◌≡◌, ◌-◌, pred, ap, ◌∙◌, arith, sub-one}
use Rattle.re_laws.specs.Trees.{full}
use Rattle.re_laws.proofs.PadCode.{copies_all, copies_more}
use Rattle.re_laws.proofs.ShownLemmas.{tree_of_branch-Node}
use Rattle.re_laws.proofs.padding.+full.Goals as goal

pub full_branch-returns : goal.full_branch-returns
full_branch-returns g t c = tree_of_branch-Node c.in_ok-children.children ∙ c.in_ok-children.ensures

pub full_children-loop-preserved : goal.full_children-loop-preserved
full_children-loop-preserved g t c =
    let ports : c.saturating_sub.result ≡ pred c.args.other = c.saturating_sub.ensures ∙ sub-one c.args.other in
    rw c.in_ok-push.ensures.items
    (copies_more c.loop.counter c.args.fill (full c.args.other c.args.own (c.args.depth - 1) (pred c.args.other) c.args.fill) c.loop.children.items c.in_ok-branch.branch c.loop.invariant
    (c.in_ok-branch.ensures ∙ ap (λ n. full c.args.other c.args.own (c.args.depth - 1) n c.args.fill) ports))

pub full_children-returns : goal.full_children-returns
full_children-returns g t c =
    let past = c.loop-test.false in
    let within = c.loop.auto.counter-end in
    c.loop.invariant ∙ copies_all c.args.own c.args.other c.args.depth c.args.ports c.loop.counter c.args.fill c.requires (omega arith)
