use Rattle.std.proofs.Common.{◌∙◌}
use Rattle.std.specs.Prelude.{string_bytes}
use Rattle.re_asking.proofs.CutWords.{behind_of}
use Rattle.re_asking.proofs.beside_words.words_behind.Goals as goal

pub returns : goal.returns
returns c = c.behind_given.ensures ∙ behind_of string_bytes c.args.words.now c.split_at.result.1.now c.split_at.ensures.back
