use Rattle.std.proofs.Common.{◌≡◌, ◌≤◌, ◌+◌, [], length}
use Rattle.re_problem.specs.ProblemTexts.{lines_of}
use Rattle.re_graph_words.specs.GraphLines.{graph_from}
use Rattle.re_graph_words.proofs.lines.read_lines.Given as goal

-- the passive nodes stand for the lines in front of the rest
abbrev pub invariant-lines : goal.invariant-lines
invariant-lines l = record {
  so_far : graph_from l.degrees l.number [] (lines_of l.text) ≡ graph_from l.degrees l.current l.passive.items (lines_of l.rest);
  counted : l.current + length l.rest ≤ l.number + length l.text;
  within : length l.rest ≤ length l.text;
}

abbrev pub decreases-lines : goal.decreases-lines
decreases-lines l = length l.rest
