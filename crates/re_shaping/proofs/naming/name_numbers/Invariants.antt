use Rattle.std.proofs.Common.{◌≡◌, map, take}
use Rattle.std.specs.Prelude.{slice_set}
use Rattle.re_labels.specs.Lists.{place_of}
use Rattle.re_labels.specs.ListSets.{list_set}
use Rattle.re_shaping.proofs.naming.name_numbers.Given as goal

abbrev pub invariant-loop-other : goal.invariant-loop-other
invariant-loop-other l = l.numbers.items ≡ map (place_of (list_set (slice_set l.names l.label l.name))) (take l.other (slice_set l.names l.label l.name))
