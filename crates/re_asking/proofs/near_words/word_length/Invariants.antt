use Rattle.std.proofs.Common.{◌≡◌, ◌+◌, length}
use Rattle.std.specs.List.{position_or_len}
use Rattle.re_asking.specs.NearWords.{ends_word}
use Rattle.re_asking.proofs.near_words.word_length.Given as goal

-- no byte in front of the rest ends the word
abbrev pub invariant-bytes : goal.invariant-bytes
invariant-bytes l = (position_or_len ends_word l.line ≡ l.at + position_or_len ends_word l.rest) × (l.at + length l.rest ≡ length l.line)

abbrev pub decreases-bytes : goal.decreases-bytes
decreases-bytes l = length l.rest
