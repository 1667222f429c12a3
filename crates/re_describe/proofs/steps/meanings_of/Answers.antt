use Rattle.re_boxes.specs.HeldStrength.{ups_in}
use Rattle.re_describe.proofs.Growing.{meant_step}
use Rattle.re_describe.proofs.steps.meanings_of.Goals as goal

pub loop-entry-preserved : goal.loop-entry-preserved
loop-entry-preserved c =
    meant_step (ups_in c.args.strength.now.ups.items) c.args.strength.now.labels c.args.entries.now c.loop-entry.entry-index c.loop-entry.meant.items c.push.new.self.items c.entry-item.result c.meant_of-one.result
    c.loop-entry-test.true c.entry-item.is c.loop-entry.invariant c.meant_of-one.ensures.label c.meant_of-one.ensures.means c.in_ok-push.ensures.items
