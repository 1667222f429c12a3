use Rattle.re_relaxed.proofs.returning.+back_within.Given as goal

abbrev pub decreases-back_within : goal.decreases-back_within
decreases-back_within l = l.more
