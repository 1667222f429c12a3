use Rattle.re_step.proofs.growing.+grown_before.Given as goal

abbrev pub decreases-grown_before : goal.decreases-grown_before
decreases-grown_before l = l.place
