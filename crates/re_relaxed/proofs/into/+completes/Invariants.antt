use Rattle.re_relaxed.proofs.into.+completes.Given as goal

abbrev pub decreases-completes : goal.decreases-completes
decreases-completes l = l.more
