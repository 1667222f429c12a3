-- The law is shown by its lemmas.
use Rattle.re_texts.proofs.EntryLines.{pair_line_law}
use Rattle.re_texts.proofs.pair_line_law.Goals as goal

pub returns : goal.returns
returns c = pair_line_law
