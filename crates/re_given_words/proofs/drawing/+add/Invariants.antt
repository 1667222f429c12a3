use Rattle.std.proofs.Common.{length}
use Rattle.re_given_words.proofs.drawing.+add.Given as goal

abbrev pub decreases-add : goal.decreases-add
decreases-add l = length l.ports.now
