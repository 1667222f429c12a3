use Rattle.std.proofs.Common.{◌≡◌, ◌≤◌, ◌+◌, length}
use Rattle.re_problem.specs.ProblemTexts.{lines_of}
use Rattle.re_judging.proofs.LineItems.{in_front}
use Rattle.re_judging.specs.LabelLines.{multisets_on}
use Rattle.re_judging.proofs.label_lines.multisets_on.Given as goal

-- the multisets stand for the lines in front of the rest
abbrev pub invariant-lines : goal.invariant-lines
invariant-lines l = record {
  so_far : multisets_on l.names l.degree l.number (lines_of l.text) ≡ in_front l.multisets.items (multisets_on l.names l.degree l.current (lines_of l.rest));
  counted : l.current + length l.rest ≤ l.number + length l.text;
  within : length l.rest ≤ length l.text;
}

abbrev pub decreases-lines : goal.decreases-lines
decreases-lines l = length l.rest
