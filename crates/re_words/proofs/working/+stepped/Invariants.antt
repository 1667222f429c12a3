use Rattle.re_words.proofs.working.+stepped.Given as goal

abbrev pub decreases-stepped : goal.decreases-stepped
decreases-stepped l = l.further
