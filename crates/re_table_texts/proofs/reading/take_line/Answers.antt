use Rattle.std.proofs.Common.{subst, sym, None}
use Rattle.re_table_texts.proofs.JudgedLines.{table-empty, table-filled}
use Rattle.re_table_texts.specs.Reading.{HoldsTable}
use Rattle.re_table_texts.proofs.reading.take_line.Goals as goal

pub returns-then-is_empty_line : goal.returns-then-is_empty_line
returns-then-is_empty_line c =
    let read = c.args.read.now in
    (table-empty c.args.byte c.args.number read.first read.owner read.radius read.answers.items c.args.line.now (sym c.if-begins_section.ensures.test) (sym c.if-is_empty_line.ensures), c.requires.begun)

pub returns : goal.returns
returns c =
    let read = c.args.read.now in
    subst (λ r. HoldsTable c.args.form r c.add_answer.result c.add_answer.new.read)
    (sym (table-filled c.args.byte c.args.number read.first read.owner read.radius read.answers.items c.args.line.now (sym c.if-begins_section.ensures.test) None (sym c.if-is_empty_line.ensures) c.in_default.ensures))
    c.add_answer.ensures
