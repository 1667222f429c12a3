use Rattle.std.proofs.Common.{◌+◌, length, subst}
use Rattle.re_table_texts.specs.Reading.{Holds}
use Rattle.re_table_texts.specs.TableTexts.{text_ends}
use Rattle.re_table_texts.proofs.reading.end_text.Goals as goal

pub returns-in-Table : goal.returns-in-Table
returns-in-Table c =
    let next = c.args.byte + length c.args.line.now + 1 in
    subst (λ section. Holds c.args.form (text_ends c.args.form next c.args.number c.args.first c.args.problem section) next c.begin_table.result) c.in-Table.ensures.section (c.begin_table.ensures next)
