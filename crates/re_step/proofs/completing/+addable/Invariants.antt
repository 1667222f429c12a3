use Rattle.std.proofs.Common.{◌∷◌}
use Rattle.re_labels.proofs.SaidChoices.{weight}
use Rattle.re_step.proofs.completing.+addable.Given as goal

abbrev pub decreases-addable : goal.decreases-addable
decreases-addable l = weight (l.first ∷ l.others.now)
