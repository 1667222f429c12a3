use Rattle.std.proofs.Common.{◌≡◌, length}
use Rattle.re_asking.specs.NearWords.{has_line_of}
use Rattle.re_asking.proofs.near_words.has_own_line.Given as goal

-- no line in front of the rest is of the word
abbrev pub invariant-lines : goal.invariant-lines
invariant-lines l = has_line_of l.word l.text ≡ has_line_of l.word l.rest

abbrev pub decreases-lines : goal.decreases-lines
decreases-lines l = length l.rest
