use Rattle.std.proofs.Common.{length}
use Rattle.re_problem.specs.SectionLines.{words_of}
use Rattle.re_graph_words.proofs.ends.+line_from.Given as goal

abbrev pub decreases-line_from : goal.decreases-line_from
decreases-line_from l = length (words_of l.line.now)
