-- The law is shown by its lemmas.
use Rattle.re_texts.proofs.EntryLines.{entry_line_law}
use Rattle.re_texts.proofs.entry_line_law.Goals as goal

pub returns : goal.returns
returns c = entry_line_law
