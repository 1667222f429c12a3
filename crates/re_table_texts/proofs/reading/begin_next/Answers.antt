use Rattle.std.proofs.Common.{◌+◌, [], length, refl, sym, Some, ◌∙◌}
use Rattle.std.proofs.lemmas.Bool.{false≢true}
use Rattle.re_table_texts.proofs.JudgedLines.{next-begun, not-twice}
use Rattle.re_table_texts.specs.TableTexts.State.{InText}
use Rattle.re_table_texts.proofs.reading.begin_next.Goals as goal

pub returns-then-is_some : goal.returns-then-is_some
returns-then-is_some c = not-twice c.args.form (c.args.byte + length c.args.line.now + 1) c.args.number c.args.first c.args.problem (sym c.if-is_some.ensures)

pub returns-in-Slower : goal.returns-in-Slower
returns-in-Slower c = (
  InText (Some c.args.problem) (c.args.byte + length c.args.line.now + 1) (c.args.number + 1) [],
  next-begun c.args.form (c.args.byte + length c.args.line.now + 1) c.args.number c.args.first c.args.problem c.in-Slower.is (λ some. false≢true (c.if-is_some.ensures ∙ some)),
  (refl, (λ some. c.in-Slower.is), c.text_behind.ensures),
)
