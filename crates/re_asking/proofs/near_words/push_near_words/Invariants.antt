use Rattle.std.proofs.Common.{◌≡◌, ◌++◌, ◌≤◌, length}
use Rattle.re_asking.specs.NearWords.{near_words}
use Rattle.re_asking.proofs.NearLines.{near_left}
use Rattle.re_asking.proofs.near_words.push_near_words.Given as goal

-- what was put, and what is to be put of the rest, are what is to be put of the whole
abbrev pub invariant-lines : goal.invariant-lines
invariant-lines l = (l.out.items ++ near_left l.left l.word l.text l.rest ≡ l.fn.out.items ++ near_words l.word l.text) × (length l.rest ≤ length l.text)

abbrev pub decreases-lines : goal.decreases-lines
decreases-lines l = length l.rest
