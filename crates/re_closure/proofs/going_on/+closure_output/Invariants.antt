use Rattle.re_closure.proofs.going_on.+closure_output.Given as goal

abbrev pub decreases-closure_output : goal.decreases-closure_output
decreases-closure_output l = l.more
