use Rattle.std.proofs.Common.{◌∙◌, length}
use Rattle.re_greedy.proofs.Extras.{joined_below, joining_all, joining_stay, joining_step}
use Rattle.re_greedy.proofs.joining.joining.Goals as goal
use Rattle.re_greedy.proofs.joining.joining.Goals.{in-Some, in_default}
use Rattle.re_labels.specs.declared.TheConstants.{MAX_LABELS}

pub insert-set-requires : goal.insert-set-requires
insert-set-requires c =
    joined_below c.in-Some.label (length c.member-item.result) MAX_LABELS c.labels-in-loop-member.result.now c.labels.result.now c.member-item.result c.in-Some.ensures c.labels.ensures.labels c.labels.ensures.config

pub loop-member-preserved : goal.loop-member-preserved
loop-member-preserved c = elim c.match-extra.branch [
  | in-Some w ↦ joining_step c.args.members.now c.loop-member.member-index c.member-item.result c.args.seen.now c.loop-member.set c.match-extra.set w.in-Some.label c.labels.result.now c.labels-in-loop-member.result.now
      c.loop-member-test.true c.member-item.is c.loop-member.invariant c.labels.ensures.labels c.labels-in-loop-member.ensures.labels w.in-Some.ensures (w.set-is ∙ w.insert-set.ensures)
  | in_default w ↦ joining_stay c.args.members.now c.loop-member.member-index c.member-item.result c.args.seen.now c.loop-member.set c.match-extra.set c.labels.result.now c.labels-in-loop-member.result.now
      c.loop-member-test.true c.member-item.is c.loop-member.invariant c.labels.ensures.labels c.labels-in-loop-member.ensures.labels w.in_default.ensures w.set-is
]

pub returns : goal.returns
returns c = joining_all c.args.members.now c.loop-member.member-index c.args.seen.now c.loop-member.set c.loop-member-test.false c.loop-member.invariant
