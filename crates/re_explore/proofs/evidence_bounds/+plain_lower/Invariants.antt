use Rattle.re_explore.proofs.evidence_bounds.+plain_lower.Given as goal

abbrev pub decreases-plain_lower : goal.decreases-plain_lower
decreases-plain_lower l = l.steps
