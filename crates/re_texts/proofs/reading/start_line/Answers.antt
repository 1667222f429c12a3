use Rattle.std.proofs.Common.{◌+◌, [], length, sym}
use Rattle.re_texts.proofs.JudgedLines.{start-section}
use Rattle.re_texts.specs.MapTexts.State.{InFrom}
use Rattle.re_texts.specs.declared.sections.Section.TheVariants.{From}
use Rattle.re_texts.proofs.reading.start_line.Goals as goal

pub returns-in-From : goal.returns-in-From
returns-in-From c = (
  InFrom (c.args.byte + length c.args.line.now + 1) (c.args.number + 1) [],
  start-section c.args.byte c.args.number c.args.line.now From (sym c.if-is_empty_line.ensures) c.in-From.ensures.section,
  c.text_behind.ensures,
)
