use Rattle.std.proofs.Common.{◌∷◌}
use Rattle.re_labels.proofs.SaidChoices.{weight}
use Rattle.re_choice.proofs.choice.+draw.Given as goal

abbrev pub decreases-draw : goal.decreases-draw
decreases-draw l = weight (l.first ∷ l.others.now)
