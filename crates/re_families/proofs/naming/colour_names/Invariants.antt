use Rattle.std.proofs.Common.{◌≡◌, map}
use Rattle.re_families.specs.Families.{colour_name}
use Rattle.re_labels.specs.Lists.{count_from}
use Rattle.re_labels.specs.ListSets.{list_set}
use Rattle.re_families.proofs.naming.colour_names.Given as goal

abbrev pub invariant-loop-before : goal.invariant-loop-before
invariant-loop-before l = l.names ≡ list_set (map (colour_name l.colours) (count_from 1 l.before))
