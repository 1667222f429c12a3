use Rattle.std.proofs.Common.{refl}
use Rattle.re_table_texts.specs.TableTexts.State.{InTable}
use Rattle.re_table_texts.proofs.reading.table_line.Goals as goal

pub returns-in-Ok : goal.returns-in-Ok
returns-in-Ok c = (InTable _ _ _ _, c.in-Ok.ensures.0, (refl, refl, refl, refl, c.in-Ok.ensures.1))
