use Rattle.std.proofs.Common.{arith}
use Rattle.re_labels.proofs.Rearranging.{length-AllZip}
use Rattle.re_labels.specs.Sets.{IsIn}
use Rattle.re_labels.specs.declared.TheConstants.{MAX_LABELS}
use Rattle.re_boxes.proofs.RaisedChoices.{choice_at}
use Rattle.re_boxes.proofs.choosing.first_place.Goals as goal

pub bounds-choice-place : goal.bounds-choice-place
bounds-choice-place c = let e = length-AllZip IsIn c.args.choice.now c.args.may.now c.requires.choice in let h = c.loop-place-test.true in omega (arith, e, h)

pub has-requires : goal.has-requires
has-requires c = choice_at MAX_LABELS c.args.choice.now c.args.may.now c.loop-place.place c.requires.sets c.requires.choice (let h = c.loop-place-test.true in omega (arith, h))

pub has-requires-then-has : goal.has-requires-then-has
has-requires-then-has c = choice_at MAX_LABELS c.args.choice.now c.args.may.now c.loop-place.place c.requires.sets c.requires.choice (let h = c.loop-place-test.true in omega (arith, h))
