use Rattle.std.specs.Prelude.{string_bytes}
use Rattle.re_asking.proofs.CutWords.{behind_dropped}
use Rattle.re_asking.proofs.beside_words.behind_given.Goals as goal

pub returns-then-place-words : goal.returns-then-place-words
returns-then-place-words c = behind_dropped string_bytes c.args.words.now c.args.words.now c.split_at.result.1.now c.given_place-place.result c.split_at.ensures.back c.given_place-place.ensures.place
