use Rattle.std.proofs.Common.{◌-◌, arith, refl}
use Rattle.re_check.proofs.RowSets.{read-set, sets-place, steps-done, steps-more, steps-stop}
use Rattle.re_check.proofs.Telling.{tells-false, tells-true}
use Rattle.re_problem.specs.Steps.{entry_sets}
use Rattle.re_check.proofs.row_sets.ascend.Goals as goal

pub returns-then-ge : goal.returns-then-ge
returns-then-ge c = tells-false _ refl (steps-stop (entry_sets c.args.entries.now) c.loop-place.place c.before-in-loop-place.inside.set c.entry.inside.set c.ge.result c.loop-place.auto.place (sets-place c.args.entries.now c.loop-place.place c.loop-place-test.true)
    (read-set c.args.entries.now (c.loop-place.place - 1) c.index-entries-place.result c.before-in-loop-place.inside.set c.before-in-loop-place.inside.label (omega (arith, c.loop-place-test.true, c.loop-place.auto.place)) c.index-entries-place.is c.before-in-loop-place.view_is)
    (read-set c.args.entries.now c.loop-place.place c.index-entries-place-in-loop-place.result c.entry.inside.set c.entry.inside.label c.loop-place-test.true c.index-entries-place-in-loop-place.is c.entry.view_is) c.ge.ensures c.if-ge.true)

pub loop-place-preserved : goal.loop-place-preserved
loop-place-preserved c =
    steps-more (entry_sets c.args.entries.now) c.loop-place.place c.before-in-loop-place.inside.set c.entry.inside.set c.ge.result c.loop-place.auto.place (sets-place c.args.entries.now c.loop-place.place c.loop-place-test.true)
    (read-set c.args.entries.now (c.loop-place.place - 1) c.index-entries-place.result c.before-in-loop-place.inside.set c.before-in-loop-place.inside.label (omega (arith, c.loop-place-test.true, c.loop-place.auto.place)) c.index-entries-place.is c.before-in-loop-place.view_is)
    (read-set c.args.entries.now c.loop-place.place c.index-entries-place-in-loop-place.result c.entry.inside.set c.entry.inside.label c.loop-place-test.true c.index-entries-place-in-loop-place.is c.entry.view_is) c.ge.ensures c.if-ge.false c.loop-place.invariant

pub returns : goal.returns
returns c = tells-true _ refl (steps-done c.args.entries.now c.loop-place.place c.loop-place-test.false c.loop-place.invariant)
