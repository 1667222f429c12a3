use Rattle.std.proofs.Common.{◌≡◌, ◌≤◌, length, nat_le}
use Rattle.std.specs.List.{list_all}
use Rattle.re_problem.specs.ProblemTexts.{lines_of}
use Rattle.re_distances.specs.Distances.{distance}
use Rattle.re_asking.specs.NearWords.{line_word}
use Rattle.re_asking.proofs.near_words.is_least.Given as goal

-- the lines in front of the rest are of no nearer words
abbrev pub invariant-lines : goal.invariant-lines
invariant-lines l =
    (list_all (λ other. nat_le l.number (distance l.word (line_word other))) (lines_of l.text) ≡ list_all (λ other. nat_le l.number (distance l.word (line_word other))) (lines_of l.rest)) × (length l.rest ≤ length l.text)

abbrev pub decreases-lines : goal.decreases-lines
decreases-lines l = length l.rest
