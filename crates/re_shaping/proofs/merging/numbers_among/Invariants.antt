use Rattle.std.proofs.Common.{◌≡◌, map}
use Rattle.re_labels.specs.Lists.{count_from}
use Rattle.re_changes.specs.Renumbering.{number_among}
use Rattle.re_shaping.specs.Merging.{merged_label}
use Rattle.re_shaping.proofs.merging.numbers_among.Given as goal

abbrev pub invariant-loop-label : goal.invariant-loop-label
invariant-loop-label l = l.numbers.items ≡ map (λ label. number_among l.stay (merged_label l.from l.to label)) (count_from 0 l.label)
