use Rattle.std.proofs.Common.{arith, sym}
use Rattle.std.specs.Prelude.{string_bytes}
use Rattle.re_inputs.proofs.WordCounts.{too_few, too_many}
use Rattle.re_inputs.proofs.input_words.input_word.Goals as goal

pub returns-in_default-clause-word : goal.returns-in_default-clause-word
returns-in_default-clause-word c = let l = c.in_default.len_below in sym (too_few string_bytes c.args.words.now (omega (arith, l)))

pub returns-in_default-2-clause-word : goal.returns-in_default-2-clause-word
returns-in_default-2-clause-word c = let l = c.in_default.len_at_least in sym (too_many string_bytes c.args.words.now (omega (arith, l)))
