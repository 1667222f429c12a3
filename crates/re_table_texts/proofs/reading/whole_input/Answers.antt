use Rattle.std.proofs.Common.{arith, refl, ◌∙◌}
use Rattle.re_algo.proofs.TableLaws.{built}
use Rattle.re_table_texts.proofs.JudgedLines.{whole-table}
use Rattle.re_table_texts.specs.TableTexts.{table_of}
use Rattle.re_table_texts.proofs.reading.whole_input.Goals as goal

pub unreachable-requires : goal.unreachable-requires
unreachable-requires c =
    let read = c.args.read in
    let table = table_of read.owner read.radius read.answers.items in
    let is = whole-table c.args.form read c.degrees.ensures.problem c.requires.begun (omega arith) in
    c.in_default.not-Some table (c.build.ensures ∙ built c.degrees.result read.radius read.answers.items table c.degrees.ensures.degrees refl refl is)
