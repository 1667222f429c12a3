use Rattle.std.proofs.Common.{◌+◌, [], length, refl, sym, None}
use Rattle.std.proofs.lemmas.Bool.{false≢true}
use Rattle.re_table_texts.proofs.JudgedLines.{start-section}
use Rattle.re_table_texts.specs.TableTexts.State.{InText}
use Rattle.re_table_texts.specs.declared.sections.Section.TheVariants.{Problem}
use Rattle.re_table_texts.proofs.reading.start_line.Goals as goal

pub returns-in-Problem : goal.returns-in-Problem
returns-in-Problem c = (
  InText None (c.args.byte + length c.args.line.now + 1) (c.args.number + 1) [],
  start-section c.args.byte c.args.number c.args.line.now Problem (sym c.if-is_empty_line.ensures) c.in-Problem.ensures.section,
  (refl, (λ some. absurd (false≢true some)), c.text_behind.ensures),
)
