use Rattle.std.proofs.Common.{◌∙◌, [], sym, subst, arith}
use Rattle.re_labels.specs.Sets.{IsLabelSet}
use Rattle.re_labels.proofs.RowCalls.{read_within}
use Rattle.re_boxes.proofs.Walks.{always, never, one_more}
use Rattle.re_boxes.proofs.BoxesOfRows.{all_from_at}
use Rattle.re_check.proofs.judging.are_below.Goals as goal
use Rattle.re_labels.proofs.Rows.{all_at}
use Rattle.re_labels.proofs.Tests.{not_told}

pub returns-then-not-is_below : goal.returns-then-not-is_below
returns-then-not-is_below c = never (λ all. not_told c.is_below.result c.is_below.ensures c.if-not-is_below.true
    (subst (IsLabelSet c.args.labels) (sym (c.set-item.is ∙ read_within c.args.sets.now c.loop-set.set-index c.set-item.result [] c.loop-set-test.true))
    (all_at (IsLabelSet c.args.labels) c.args.sets.now c.loop-set.set-index all c.loop-set-test.true)))

pub loop-set-preserved : goal.loop-set-preserved
loop-set-preserved c =
    one_more [] (IsLabelSet c.args.labels) c.args.sets.now c.loop-set.set-index c.set-item.result c.loop-set-test.true c.set-item.is c.loop-set.invariant (c.is_below.ensures.0 c.if-not-is_below.false)

pub returns : goal.returns
returns c =
    let past = c.loop-set-test.false in
    always (all_from_at (IsLabelSet c.args.labels) c.args.sets.now (λ i b. c.loop-set.invariant i (omega (arith, b, past))))
