-- The law is shown by its lemmas.
use Rattle.re_texts.proofs.HeaderLines.{section_line_law}
use Rattle.re_texts.proofs.section_line_law.Goals as goal

pub returns : goal.returns
returns c = section_line_law
