use Rattle.std.proofs.Common.{◌∷◌}
use Rattle.re_labels.proofs.SaidChoices.{weight}
use Rattle.re_boxes.proofs.strength_choosing.+is_bad_behind.Given as goal

abbrev pub decreases-is_bad_behind : goal.decreases-is_bad_behind
decreases-is_bad_behind l = weight (l.first ∷ l.others.now)
