use Rattle.re_relaxed.proofs.through.+through_behind.Given as goal

abbrev pub decreases-through_behind : goal.decreases-through_behind
decreases-through_behind l = l.more
