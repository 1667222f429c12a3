use Rattle.std.proofs.Common.{take}
use Rattle.re_given_words.specs.Searching.{AreLeft}
use Rattle.re_given_words.proofs.searching.all_left.Given as goal

abbrev pub invariant-loop-before : goal.invariant-loop-before
invariant-loop-before l = AreLeft l.active l.standing (take l.before-index l.opens) l.left.items
