use Rattle.re_judging.proofs.label_lines.+line_multiset.Given as goal

abbrev pub decreases-line_multiset : goal.decreases-line_multiset
decreases-line_multiset l = l.most
