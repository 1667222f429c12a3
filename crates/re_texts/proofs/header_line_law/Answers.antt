-- The law is shown by its lemmas.
use Rattle.re_texts.proofs.HeaderLines.{header_line_law}
use Rattle.re_texts.proofs.header_line_law.Goals as goal

pub returns : goal.returns
returns c = header_line_law
