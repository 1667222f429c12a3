use Rattle.re_explore.proofs.evidence_bounds.+closure_behind.Given as goal

abbrev pub decreases-closure_behind : goal.decreases-closure_behind
decreases-closure_behind l = l.steps
