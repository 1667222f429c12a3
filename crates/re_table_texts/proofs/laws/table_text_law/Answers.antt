-- The law is shown by its lemmas.
use Rattle.re_table_texts.proofs.ReadBack.{table_text_law}
use Rattle.re_table_texts.proofs.laws.table_text_law.Goals as goal

pub returns : goal.returns
returns c = table_text_law
