use Rattle.std.proofs.Common.{◌≡◌, take, length}
use Rattle.std.specs.List.{flat_map}
use Rattle.re_labels.specs.Lists.{count_from}
use Rattle.re_texts.specs.SetTexts.{meaning_text}
use Rattle.re_texts.proofs.diagrams.print_meanings.Given as goal

abbrev pub invariant-loop-label : goal.invariant-loop-label
invariant-loop-label l = l.text.items ≡ flat_map (meaning_text l.names l.names_before l.sets) (take l.label (count_from 0 (length l.sets)))
