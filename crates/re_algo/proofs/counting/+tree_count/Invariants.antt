use Rattle.re_algo.proofs.counting.+tree_count.Given as goal

abbrev pub decreases-tree_count : goal.decreases-tree_count
decreases-tree_count l = l.depth
