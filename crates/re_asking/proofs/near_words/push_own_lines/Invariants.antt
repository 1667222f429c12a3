use Rattle.std.proofs.Common.{◌≡◌, ◌++◌, length}
use Rattle.re_asking.specs.NearWords.{own_lines}
use Rattle.re_asking.proofs.near_words.push_own_lines.Given as goal

-- what was put, and what is to be put of the rest, are what is to be put of the whole
abbrev pub invariant-lines : goal.invariant-lines
invariant-lines l = l.out.items ++ own_lines l.word l.rest ≡ l.fn.out.items ++ own_lines l.word l.text

abbrev pub decreases-lines : goal.decreases-lines
decreases-lines l = length l.rest
