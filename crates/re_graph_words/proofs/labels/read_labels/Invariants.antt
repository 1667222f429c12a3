use Rattle.std.proofs.Common.{◌≡◌, ◌≤◌, ◌+◌, [], length}
use Rattle.re_problem.specs.ProblemTexts.{lines_of}
use Rattle.re_graph_words.specs.GivenInputs.{labels_from}
use Rattle.re_graph_words.proofs.labels.read_labels.Given as goal

-- the labels stand for the lines in front of the rest
abbrev pub invariant-lines : goal.invariant-lines
invariant-lines l = record {
  so_far : labels_from l.input l.nodes l.number [] (lines_of l.text) ≡ labels_from l.input l.nodes l.current l.labels.items (lines_of l.rest);
  counted : l.current + length l.rest ≤ l.number + length l.text;
  within : length l.rest ≤ length l.text;
}

abbrev pub decreases-lines : goal.decreases-lines
decreases-lines l = length l.rest
