use Rattle.std.proofs.Common.{◌<◌, ◌≤◌, length, map, string_bytes, sym, arith}
use Rattle.std.proofs.lemmas.List.{length-map}
use Rattle.re_search_words.proofs.WordCounts.{few_words, many_words}
use Rattle.re_search_words.proofs.words.search_word.Goals as goal

pub returns-in_default-clause-word : goal.returns-in_default-clause-word
returns-in_default-clause-word c =
    let words = map string_bytes c.args.words.now in
    let few : length words < 3 = grind (arith, length-map, c.in_default.len_below) in
    sym (few_words words few)

pub returns-in_default-2-clause-word : goal.returns-in_default-2-clause-word
returns-in_default-2-clause-word c =
    let words = map string_bytes c.args.words.now in
    let many : 5 ≤ length words = grind (arith, length-map, c.in_default.len_at_least) in
    sym (many_words words many)
