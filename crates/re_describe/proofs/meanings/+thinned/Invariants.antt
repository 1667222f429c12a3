use Rattle.re_describe.proofs.meanings.+thinned.Given as goal

abbrev pub decreases-thinned : goal.decreases-thinned
decreases-thinned l = l.label
