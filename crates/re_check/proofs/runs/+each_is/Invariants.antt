use Rattle.std.proofs.Common.{◌∷◌}
use Rattle.re_labels.proofs.SaidChoices.{weight}
use Rattle.re_check.proofs.runs.+each_is.Given as goal

abbrev pub decreases-each_is : goal.decreases-each_is
decreases-each_is l = weight (l.left ∷ l.others.now)
