use Rattle.std.proofs.Common.{◌≡◌, map, take}
use Rattle.re_labels.specs.Sets.{number}
use Rattle.re_texts.proofs.rows.numbers_of.Given as goal

abbrev pub invariant-loop-set : goal.invariant-loop-set
invariant-loop-set l = l.numbers.items ≡ map number (take l.set-index l.sets)
