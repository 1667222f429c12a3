use Rattle.std.proofs.Common.{◌≡◌, map, take}
use Rattle.re_extract.specs.Seen.{set_over}
use Rattle.re_extract.proofs.choosing.sets_over.Given as goal

abbrev pub invariant-loop-sight : goal.invariant-loop-sight
invariant-loop-sight l = l.sets.items ≡ map (set_over l.entries l.answers) (take l.sight-index l.sights.items)
