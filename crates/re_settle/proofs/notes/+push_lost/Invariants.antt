use Rattle.re_settle.proofs.notes.+push_lost.Given as goal

abbrev pub decreases-push_lost : goal.decreases-push_lost
decreases-push_lost l = l.more
