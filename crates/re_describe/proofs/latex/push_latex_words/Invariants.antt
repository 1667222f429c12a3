use Rattle.std.proofs.Common.{◌≡◌, ◌++◌, drop}
use Rattle.re_describe.specs.Latex.{latex_words}
use Rattle.re_describe.specs.declared.latex.Mode.TheVariants.{Plain}
use Rattle.re_describe.proofs.latex.push_latex_words.Given as goal

abbrev pub invariant-loop-byte : goal.invariant-loop-byte
invariant-loop-byte l = l.text.items ++ latex_words l.mode (drop l.byte-index l.words) ≡ l.fn.text.items ++ latex_words Plain l.words
