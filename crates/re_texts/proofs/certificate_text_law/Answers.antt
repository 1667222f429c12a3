use Rattle.re_texts.proofs.ReadingBack.{certificate_text_law}
use Rattle.re_texts.proofs.certificate_text_law.Goals as goal

pub returns : goal.returns
returns c = certificate_text_law c.row_line_law.ensures c.entry_line_law.ensures c.image_line_law.ensures c.pair_line_law.ensures c.header_line_law.ensures c.section_line_law.ensures
