use Rattle.std.proofs.Common.{arith, sym}
use Rattle.std.specs.Prelude.{string_bytes}
use Rattle.re_asking.proofs.CutWords.{too_many}
use Rattle.re_asking.proofs.beside_words.input_by.Goals as goal

pub returns-in_default-2 : goal.returns-in_default-2
returns-in_default-2 c = let l = c.in_default.len_at_least in sym (too_many string_bytes c.args.words.now (omega (arith, l)))
