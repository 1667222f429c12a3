use Rattle.std.proofs.Common.{◌∷◌}
use Rattle.re_labels.proofs.SaidChoices.{weight}
use Rattle.re_labels.proofs.good_rows.+each_is.Given as goal

abbrev pub decreases-each_is : goal.decreases-each_is
decreases-each_is l = weight (l.first ∷ l.others.now)
