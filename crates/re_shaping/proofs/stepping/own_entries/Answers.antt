use Rattle.re_shaping.proofs.OwnEntries.{entries-more}
use Rattle.re_shaping.proofs.stepping.own_entries.Goals as goal

pub loop-place-preserved : goal.loop-place-preserved
loop-place-preserved c =
    entries-more c.args.sets.now c.loop-place.place c.index-sets-place.result c.loop-place.entries.items c.push.new.self.items c.loop-place-test.true c.index-sets-place.is c.loop-place.invariant c.in_ok-push.ensures.items
