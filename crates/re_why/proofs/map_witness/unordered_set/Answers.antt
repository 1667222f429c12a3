use Rattle.std.proofs.Common.{arith}
use Rattle.re_why.proofs.Loops.{unordered-done, unordered-more, unordered-stop}
use Rattle.re_why.specs.Finding.{sets_ascend}
use Rattle.re_why.proofs.map_witness.unordered_set.Goals as goal

pub loop-place-init : goal.loop-place-init
loop-place-init c = λ k x y h. absurd (omega (arith, h))

pub returns-then-not-sets_ascend : goal.returns-then-not-sets_ascend
returns-then-not-sets_ascend c = unordered-stop sets_ascend c.args.entries.now c.loop-place.place c.index-entries-place.result c.index-entries-place-in-loop-place.result c.sets_ascend.result c.loop-place.auto.place c.loop-place-test.true c.index-entries-place.is c.index-entries-place-in-loop-place.is c.sets_ascend.ensures c.if-not-sets_ascend.true c.loop-place.invariant

pub loop-place-preserved : goal.loop-place-preserved
loop-place-preserved c = unordered-more sets_ascend c.args.entries.now c.loop-place.place c.index-entries-place.result c.index-entries-place-in-loop-place.result c.sets_ascend.result c.loop-place.auto.place c.loop-place-test.true c.index-entries-place.is c.index-entries-place-in-loop-place.is c.sets_ascend.ensures c.if-not-sets_ascend.false c.loop-place.invariant

pub returns : goal.returns
returns c = unordered-done sets_ascend c.args.entries.now c.loop-place.place c.loop-place-test.false c.loop-place.invariant
