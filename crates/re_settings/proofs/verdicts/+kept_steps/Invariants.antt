use Rattle.re_settings.proofs.verdicts.+kept_steps.Given as goal

abbrev pub decreases-kept_steps : goal.decreases-kept_steps
decreases-kept_steps l = l.number
