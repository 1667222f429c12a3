use Rattle.std.proofs.Common.{◌≡◌}
use Rattle.re_labels.specs.Lists.{count_from}
use Rattle.re_given_words.proofs.asking.numbers_from.Given as goal

abbrev pub invariant-loop-place : goal.invariant-loop-place
invariant-loop-place l = l.numbers ≡ count_from l.first l.place
