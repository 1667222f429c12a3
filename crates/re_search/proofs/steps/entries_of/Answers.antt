use Rattle.std.proofs.Common.{◌∙◌}
use Rattle.re_search.proofs.PathSteps.{entries_added, entries_passed}
use Rattle.re_search.proofs.steps.entries_of.Goals as goal
use Rattle.re_search.proofs.steps.entries_of.Goals.{in-Some+in_ok-push-in-Some, in-None}

pub loop-place-preserved : goal.loop-place-preserved
loop-place-preserved c = elim c.match-image.branch [
  | in-Some+in_ok-push-in-Some w ↦ entries_added c.args.sets.now c.args.images.now c.loop-place.place w.in-Some.label w.index-sets-place.result c.loop-place.entries.items c.match-image.entries.items c.loop-place-test.true c.requires
      w.in-Some.is w.index-sets-place.is c.loop-place.invariant ((λ i. (w.entries-is i).items) ∙ w.in_ok-push-in-Some.ensures.items)
  | in-None w ↦ entries_passed c.args.sets.now c.args.images.now c.loop-place.place c.match-image.entries.items c.loop-place-test.true c.requires w.in-None.is ((λ i. (w.entries-is i).items) ∙ c.loop-place.invariant)
]
