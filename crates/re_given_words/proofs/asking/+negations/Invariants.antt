use Rattle.std.proofs.Common.{length}
use Rattle.re_given_words.proofs.asking.+negations.Given as goal

abbrev pub decreases-negations : goal.decreases-negations
decreases-negations l = length l.sets.now
