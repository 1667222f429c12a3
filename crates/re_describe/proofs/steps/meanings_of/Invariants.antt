use Rattle.std.proofs.Common.{take}
use Rattle.re_boxes.specs.HeldStrength.{ups_in}
use Rattle.re_describe.specs.Steps.{AreMeant}
use Rattle.re_describe.proofs.steps.meanings_of.Given as goal

abbrev pub invariant-loop-entry : goal.invariant-loop-entry
invariant-loop-entry l = AreMeant (ups_in l.strength.ups.items) l.strength.labels (take l.entry-index l.entries) l.meant.items
