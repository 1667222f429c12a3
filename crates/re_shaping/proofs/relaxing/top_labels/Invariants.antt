use Rattle.std.proofs.Common.{◌≡◌, map, take}
use Rattle.re_labels.specs.Lists.{place_of}
use Rattle.re_shaping.proofs.relaxing.top_labels.Given as goal

abbrev pub invariant-loop-set : goal.invariant-loop-set
invariant-loop-set l = l.labels.items ≡ map (place_of l.sets) (take l.set-index l.set-items)
