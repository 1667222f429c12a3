-- The law is shown by its lemmas.
use Rattle.re_texts.proofs.EntryLines.{image_line_law}
use Rattle.re_texts.proofs.image_line_law.Goals as goal

pub returns : goal.returns
returns c = image_line_law
