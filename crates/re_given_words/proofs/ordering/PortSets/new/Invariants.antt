use Rattle.std.proofs.Common.{◌≡◌, take}
use Rattle.re_given_words.proofs.ordering.PortSets.new.Given as goal

abbrev pub invariant-loop-set : goal.invariant-loop-set
invariant-loop-set l = l.held.items ≡ take l.set-index l.sets
