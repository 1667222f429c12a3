use Rattle.re_explore.proofs.evidence_bounds.+with_steps.Given as goal

abbrev pub decreases-with_steps : goal.decreases-with_steps
decreases-with_steps l = l.steps
