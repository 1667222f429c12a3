use Rattle.std.proofs.Common.{◌∙◌, ◌++◌, ◌∷◌, [], ap, refl}
use Rattle.re_greedy.proofs.Extras.{labels_alike, labels_apart}
use Rattle.re_greedy.proofs.Searches.{left_all, left_more, left_same}
use Rattle.re_greedy.proofs.finding.without_member.Goals as goal

pub loop-member-preserved : goal.loop-member-preserved
loop-member-preserved c =
    left_more c.args.members.now c.loop-member.left.items c.args.gone.now c.member-item.result c.loop-member.member-index c.loop-member-test.true c.member-item.is c.loop-member.invariant c.push.new.self.items
    (c.in_ok-push.ensures.items ∙ ap (λ x. c.loop-member.left.items ++ x ∷ []) c.copy.ensures)
    (labels_apart c.labels.result.now c.labels-in-loop-member.result.now c.member-item.result c.args.gone.now c.eq.result c.eq.ensures c.if-eq.false c.labels.ensures.labels c.labels-in-loop-member.ensures.labels)

pub loop-member-preserved-then-eq : goal.loop-member-preserved-then-eq
loop-member-preserved-then-eq c =
    left_same c.args.members.now c.loop-member.left.items c.args.gone.now c.member-item.result c.loop-member.member-index c.loop-member-test.true c.member-item.is c.loop-member.invariant c.loop-member.left.items refl
    (labels_alike c.labels.result.now c.labels-in-loop-member.result.now c.member-item.result c.args.gone.now c.eq.result c.eq.ensures c.if-eq.true c.labels.ensures.labels c.labels-in-loop-member.ensures.labels)

pub returns : goal.returns
returns c = left_all c.args.members.now c.loop-member.left.items c.args.gone.now c.loop-member.member-index c.loop-member-test.false c.loop-member.invariant
