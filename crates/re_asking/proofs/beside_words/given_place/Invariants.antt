use Rattle.std.proofs.Common.{◌≡◌, ◌+◌, length, map}
use Rattle.std.specs.List.{position_or_len}
use Rattle.std.specs.Prelude.{string_bytes}
use Rattle.re_asking.specs.BesideWords.{is_given}
use Rattle.re_asking.proofs.beside_words.given_place.Given as goal

-- none of the words in front of the rest is `given`
abbrev pub invariant-words : goal.invariant-words
invariant-words l = (position_or_len is_given (map string_bytes l.words) ≡ l.place + position_or_len is_given (map string_bytes l.rest)) × (l.place + length l.rest ≡ length l.words)

abbrev pub decreases-words : goal.decreases-words
decreases-words l = length l.rest
