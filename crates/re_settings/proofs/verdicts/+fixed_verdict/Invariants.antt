use Rattle.re_settings.proofs.verdicts.+fixed_verdict.Given as goal

abbrev pub decreases-fixed_verdict : goal.decreases-fixed_verdict
decreases-fixed_verdict l = l.number
