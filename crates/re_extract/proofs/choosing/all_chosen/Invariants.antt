use Rattle.std.proofs.Common.{◌≡◌, map, take}
use Rattle.re_extract.specs.Seen.{labels_over}
use Rattle.re_extract.proofs.choosing.all_chosen.Given as goal

abbrev pub invariant-loop-sights : goal.invariant-loop-sights
invariant-loop-sights l = l.found.items ≡ map (labels_over l.constraint l.entries l.answers) (take l.sights-index l.all)
