use Rattle.re_boxes.proofs.RaisedChoices.{weakest_bad, weakest_good}
use Rattle.re_boxes.specs.HeldStrength.{ups_in}
use Rattle.re_boxes.proofs.strength_choosing.strong_bad_choice.Goals as goal

pub raised-requires-in-Some-bad_choice-clause-bad : goal.raised-requires-in-Some-bad_choice-clause-bad
raised-requires-in-Some-bad_choice-clause-bad c =
    weakest_bad c.args.constraint.now c.args.sets.now (ups_in c.args.strength.now.ups.items) c.requires.strong c.weakest_sets-weakest.result.items c.as_slice.result.now c.weakest_sets-weakest.ensures.weakest c.as_slice.ensures.value
    c.in-Some-bad_choice.choice.items c.in-Some-bad_choice.ensures

pub returns-in-None : goal.returns-in-None
returns-in-None c =
    weakest_good c.args.constraint.now c.args.sets.now (ups_in c.args.strength.now.ups.items) c.requires.strong c.weakest_sets-weakest.result.items c.as_slice.result.now c.weakest_sets-weakest.ensures.weakest c.as_slice.ensures.value
    c.in-None.ensures
