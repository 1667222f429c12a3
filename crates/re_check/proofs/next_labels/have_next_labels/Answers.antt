use Rattle.std.proofs.Common.{arith, refl}
use Rattle.re_check.proofs.NextLabels.{next-count, next-item, next-labels, not_empty}
use Rattle.re_check.proofs.Telling.{tells-false, tells-true}
use Rattle.re_check.proofs.next_labels.have_next_labels.Goals as goal

pub returns-then-entries-labels : goal.returns-then-entries-labels
returns-then-entries-labels c = tells-false _ refl (λ has. c.if-entries-labels.true (next-count c.args.entries.now c.args.labels has))

pub returns-then-entry-label : goal.returns-then-entry-label
returns-then-entry-label c = tells-false _ refl (λ has.
    c.if-entry-label.true (next-item c.args.entries.now c.args.labels c.loop-label.label c.index-entries-label.result c.entry.inside.set c.entry.inside.label c.loop-label-test.true c.index-entries-label.is c.entry.view_is has).0)

pub returns-then-is_empty : goal.returns-then-is_empty
returns-then-is_empty c = tells-false _ refl (λ has.
    not_empty c.entry.inside.set c.is_empty.result c.is_empty.ensures c.if-is_empty.true
    (next-item c.args.entries.now c.args.labels c.loop-label.label c.index-entries-label.result c.entry.inside.set c.entry.inside.label c.loop-label-test.true c.index-entries-label.is c.entry.view_is has).1)

pub returns : goal.returns
returns c = tells-true _ refl (next-labels c.args.entries.now c.args.labels c.if-entries-labels.false (λ k l. c.loop-label.invariant k (omega (arith, c.loop-label-test.false))))
