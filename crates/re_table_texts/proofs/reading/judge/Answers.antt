use Rattle.std.proofs.Common.{◌+◌, length, subst}
use Rattle.re_table_texts.proofs.JudgedLines.{in-table, in-text, table-begun, text-alone, text-reads}
use Rattle.re_table_texts.specs.Reading.{IsAt}
use Rattle.re_table_texts.specs.TableTexts.{State}
use Rattle.re_table_texts.specs.declared.reading.Place.{Place}
use Rattle.re_table_texts.proofs.reading.judge.Goals as goal

pub text_line-requires-clause-first : goal.text_line-requires-clause-first
text_line-requires-clause-first c = text-alone c.args.form c.in-Text.first c.in-Text.text c.args.byte (subst (λ (p : Place). (s : State) × IsAt c.args.form p s c.args.byte) c.in-Text.is c.requires.at)

pub text_line-requires-clause-at : goal.text_line-requires-clause-at
text_line-requires-clause-at c = text-reads c.args.form c.in-Text.first c.in-Text.text c.args.byte (subst (λ (p : Place). (s : State) × IsAt c.args.form p s c.args.byte) c.in-Text.is c.requires.at)

pub returns-in-Text : goal.returns-in-Text
returns-in-Text c = λ s at.
    in-text c.args.form c.args.byte c.args.number c.args.line.now (c.args.byte + length c.args.line.now + 1) c.text_line.result c.in-Text.first c.in-Text.text c.text_line.ensures s
    (subst (λ (p : Place). IsAt c.args.form p s c.args.byte) c.in-Text.is at)

pub table_line-requires-clause-begun : goal.table_line-requires-clause-begun
table_line-requires-clause-begun c = table-begun c.args.form c.in-Table.read c.args.byte (subst (λ (p : Place). (s : State) × IsAt c.args.form p s c.args.byte) c.in-Table.is c.requires.at)

pub returns-in-Table : goal.returns-in-Table
returns-in-Table c = λ s at.
    in-table c.args.form c.args.byte c.args.number c.args.line.now (c.args.byte + length c.args.line.now + 1) c.table_line.result c.in-Table.read c.table_line.ensures s
    (subst (λ (p : Place). IsAt c.args.form p s c.args.byte) c.in-Table.is at)
