use Rattle.std.proofs.Common.{ap, arith, length}
use Rattle.re_boxes.proofs.HeldSets.{none_put, put_in}
use Rattle.re_boxes.proofs.holding.large_first.Goals as goal

pub loop-set-init : goal.loop-set-init
loop-set-init c = record { same = none_put c.new-done.result.items c.new-done.ensures; count = ap length c.new-done.ensures }

pub loop-set-preserved : goal.loop-set-preserved
loop-set-preserved c = record {
  same = put_in c.args.sets.now c.loop-set.done.items c.insert.new.self.items c.loop-set.set-index c.spot-place.result c.set-item.result c.loop-set-test.true c.set-item.is c.loop-set.invariant.same c.insert.ensures.items;
  count = (let n = c.insert.ensures.len in let m = c.loop-set.invariant.count in omega (arith, n, m));
}
