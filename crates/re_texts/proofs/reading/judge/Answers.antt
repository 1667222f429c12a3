use Rattle.std.proofs.Common.{◌+◌, length, subst}
use Rattle.re_texts.proofs.JudgedLines.{from-reads, in-from, in-to, to-reads}
use Rattle.re_texts.specs.MapTexts.{State}
use Rattle.re_texts.specs.Reading.{IsAt}
use Rattle.re_texts.specs.declared.reading.Place.{Place}
use Rattle.re_texts.proofs.reading.judge.Goals as goal

pub from_line-requires-clause-at : goal.from_line-requires-clause-at
from_line-requires-clause-at c = from-reads c.in-From.text c.args.byte (subst (λ (p : Place). (s : State) × IsAt p s c.args.byte) c.in-From.is c.requires.at)

pub returns-in-From : goal.returns-in-From
returns-in-From c = λ s at.
    in-from c.args.kind c.args.byte c.args.number c.args.line.now (c.args.byte + length c.args.line.now + 1) c.from_line.result c.in-From.text c.from_line.ensures s
    (subst (λ (p : Place). IsAt p s c.args.byte) c.in-From.is at)

pub to_line-requires-clause-at : goal.to_line-requires-clause-at
to_line-requires-clause-at c = to-reads c.in-To.from c.in-To.text c.args.byte (subst (λ (p : Place). (s : State) × IsAt p s c.args.byte) c.in-To.is c.requires.at)

pub returns-in-To : goal.returns-in-To
returns-in-To c = λ s at.
    in-to c.args.kind c.args.byte c.args.number c.args.line.now (c.args.byte + length c.args.line.now + 1) c.to_line.result c.in-To.from c.in-To.text c.to_line.ensures s
    (subst (λ (p : Place). IsAt p s c.args.byte) c.in-To.is at)
