use Rattle.std.proofs.Common.{◌∙◌, [], sym, subst, arith}
use Rattle.re_boxes.specs.Boxes.{IsUp}
use Rattle.re_boxes.specs.HeldStrength.{ups_in}
use Rattle.re_labels.proofs.RowCalls.{read_within}
use Rattle.re_boxes.proofs.Walks.{always, never, one_more}
use Rattle.re_boxes.proofs.BoxesOfRows.{all_from_at}
use Rattle.re_check.proofs.judging.are_up.Goals as goal
use Rattle.re_labels.proofs.Rows.{all_at}
use Rattle.re_labels.proofs.Tests.{not_told}

pub returns-then-not-is_up : goal.returns-then-not-is_up
returns-then-not-is_up c = never (λ all. not_told c.is_up.result c.is_up.ensures c.if-not-is_up.true
    (subst (IsUp (ups_in c.args.strength.now.ups.items)) (sym (c.set-item.is ∙ read_within c.args.sets.now c.loop-set.set-index c.set-item.result [] c.loop-set-test.true))
    (all_at (IsUp (ups_in c.args.strength.now.ups.items)) c.args.sets.now c.loop-set.set-index all c.loop-set-test.true)))

pub loop-set-preserved : goal.loop-set-preserved
loop-set-preserved c =
    one_more [] (IsUp (ups_in c.args.strength.now.ups.items)) c.args.sets.now c.loop-set.set-index c.set-item.result c.loop-set-test.true c.set-item.is c.loop-set.invariant (c.is_up.ensures.0 c.if-not-is_up.false)

pub returns : goal.returns
returns c =
    let past = c.loop-set-test.false in
    always (all_from_at (IsUp (ups_in c.args.strength.now.ups.items)) c.args.sets.now (λ i b. c.loop-set.invariant i (omega (arith, b, past))))
