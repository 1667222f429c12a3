use Rattle.re_settle.proofs.never.+closing.Given as goal

abbrev pub decreases-closing : goal.decreases-closing
decreases-closing l = l.more
