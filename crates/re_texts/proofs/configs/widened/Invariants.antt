use Rattle.std.proofs.Common.{◌≡◌, take}
use Rattle.re_texts.proofs.configs.widened.Given as goal

abbrev pub invariant-loop-label : goal.invariant-loop-label
invariant-loop-label l = l.numbers.items ≡ take l.label-index l.labels
