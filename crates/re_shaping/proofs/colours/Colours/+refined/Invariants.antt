use Rattle.re_shaping.proofs.colours.Colours.+refined.Given as goal

abbrev pub decreases-refined : goal.decreases-refined
decreases-refined l = l.times
