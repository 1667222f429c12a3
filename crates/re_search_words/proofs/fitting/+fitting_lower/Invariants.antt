use Rattle.re_search_words.proofs.fitting.+fitting_lower.Given as goal

abbrev pub decreases-fitting_lower : goal.decreases-fitting_lower
decreases-fitting_lower l = l.labels
