use Rattle.std.proofs.Common.{◌≡◌, length, take}
use Rattle.std.specs.List.{flat_map}
use Rattle.re_labels.specs.Lists.{count_from}
use Rattle.re_settings.specs.Walks.{fit_line}
use Rattle.re_settings.proofs.fitting.fit_lines.Given as goal

abbrev pub invariant-loop-label : goal.invariant-loop-label
invariant-loop-label l = l.text.items ≡ flat_map (fit_line l.problem l.input l.sets) (take l.label (count_from 0 (length l.sets)))
