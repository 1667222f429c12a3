use Rattle.std.proofs.Common.{arith}
use Rattle.re_boxes.proofs.UpSets.{below_push, weakest_push}
use Rattle.re_boxes.specs.HeldStrength.{ups_in}
use Rattle.re_boxes.proofs.strength.Strength.weakest_sets.Goals as goal

pub loop-set-preserved : goal.loop-set-preserved
loop-set-preserved c = record {
  weakest = weakest_push (ups_in c.args.self.now.ups.items) c.args.sets.now c.loop-set.weakest.items c.push.new.self.items c.loop-set.set-index c.weakest.result c.set-item.result c.loop-set-test.true c.set-item.is
      c.loop-set.invariant.weakest c.push.ensures.items (c.weakest.ensures.within, c.weakest.ensures.whole);
  below = below_push c.args.self.now.labels c.loop-set.weakest.items c.push.new.self.items c.weakest.result c.loop-set.invariant.below c.push.ensures.items c.weakest.ensures.labels;
  count = (let n = c.push.ensures.len in let m = c.loop-set.invariant.count in omega (arith, n, m));
}
