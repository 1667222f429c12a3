-- The law is shown by its lemmas.
use Rattle.re_texts.proofs.RowLines.{row_line_law}
use Rattle.re_texts.proofs.row_line_law.Goals as goal

pub returns : goal.returns
returns c = row_line_law
