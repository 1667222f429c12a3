use Rattle.std.proofs.Common.{◌≡◌, map}
use Rattle.re_labels.specs.Lists.{count_from}
use Rattle.re_changes.specs.Renumbering.{number_among}
use Rattle.re_changes.proofs.trimming.numbers_among.Given as goal

abbrev pub invariant-loop-label : goal.invariant-loop-label
invariant-loop-label l = l.images.items ≡ map (number_among l.stay) (count_from 0 l.label)
