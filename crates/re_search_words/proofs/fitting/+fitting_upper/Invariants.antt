use Rattle.re_search_words.proofs.fitting.+fitting_upper.Given as goal

abbrev pub decreases-fitting_upper : goal.decreases-fitting_upper
decreases-fitting_upper l = l.labels
