use Rattle.std.proofs.Common.{◌<◌, ◌≤◌, length, map, string_bytes, sym, arith}
use Rattle.std.proofs.lemmas.List.{length-map}
use Rattle.re_search_words.proofs.RelaxedWordCounts.{few_words, many_words}
use Rattle.re_search_words.proofs.relaxed_words.relaxed_word.Goals as goal

pub returns-in_default : goal.returns-in_default
returns-in_default c =
    let words = map string_bytes c.args.words.now in
    let few : length words < 1 = grind (arith, length-map, c.in_default.len_below) in
    sym (few_words words few)

pub returns-in_default-2 : goal.returns-in_default-2
returns-in_default-2 c =
    let words = map string_bytes c.args.words.now in
    let many : 3 ≤ length words = grind (arith, length-map, c.in_default.len_at_least) in
    sym (many_words words many)
