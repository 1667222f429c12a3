use Rattle.std.proofs.Common.{arith}
use Rattle.re_why.proofs.Loops.{unordered-done, unordered-more, unordered-stop}
use Rattle.re_why.specs.Finding.{labels_ascend}
use Rattle.re_why.proofs.upper_witness.unordered_label.Goals as goal

pub loop-place-init : goal.loop-place-init
loop-place-init c = λ k x y h. absurd (omega (arith, h))

pub returns-then-not-labels_ascend : goal.returns-then-not-labels_ascend
returns-then-not-labels_ascend c = unordered-stop labels_ascend c.args.entries.now c.loop-place.place c.index-entries-place.result c.index-entries-place-in-loop-place.result c.labels_ascend.result c.loop-place.auto.place c.loop-place-test.true c.index-entries-place.is c.index-entries-place-in-loop-place.is c.labels_ascend.ensures c.if-not-labels_ascend.true c.loop-place.invariant

pub loop-place-preserved : goal.loop-place-preserved
loop-place-preserved c = unordered-more labels_ascend c.args.entries.now c.loop-place.place c.index-entries-place.result c.index-entries-place-in-loop-place.result c.labels_ascend.result c.loop-place.auto.place c.loop-place-test.true c.index-entries-place.is c.index-entries-place-in-loop-place.is c.labels_ascend.ensures c.if-not-labels_ascend.false c.loop-place.invariant

pub returns : goal.returns
returns c = unordered-done labels_ascend c.args.entries.now c.loop-place.place c.loop-place-test.false c.loop-place.invariant
