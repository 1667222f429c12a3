use Rattle.std.proofs.Common.{◌≡◌, take}
use Rattle.re_given_words.proofs.drawing.with_behind.Given as goal

abbrev pub invariant-loop-other : goal.invariant-loop-other
invariant-loop-other l = l.more.items ≡ take l.other-index l.sets
