use Rattle.std.proofs.Common.{length}
use Rattle.re_given_words.proofs.asking.+ask_order.Given as goal

abbrev pub decreases-ask_order : goal.decreases-ask_order
decreases-ask_order l = length l.sets.now
