use Rattle.std.proofs.Common.{◌∙◌, refl, sym}
use Rattle.re_walks.proofs.FirstEntries.{entries-more, entries-none}
use Rattle.re_walks.proofs.entries.entries_for.Goals as goal

pub loop-place-init : goal.loop-place-init
loop-place-init c = c.new-entries.ensures.items ∙ sym (entries-none c.args.sets.now)

pub loop-place-preserved : goal.loop-place-preserved
loop-place-preserved c =
    entries-more c.args.sets.now c.args.labels.now c.loop-place.place _ c.index-sets-place.result c.loop-place.entries.items c.push.new.self.items c.loop-place-test.true c.requires refl c.index-sets-place.is c.loop-place.invariant c.in_ok-push.ensures.items
