use Rattle.std.proofs.Common.{◌+◌, ◌∷◌, ◌++◌, ◌∙◌, [], ap, arith, length, refl, subst, sym}
use Rattle.std.specs.Prelude.{Ok}
use Rattle.re_problem.proofs.HeldTexts.{text-ended, text-lacks, text-more, text-refused}
use Rattle.re_problem.specs.ProblemTexts.{fault_or, problem_of}
use Rattle.re_texts.proofs.JudgedLines.{from-line, from-section, not-to}
use Rattle.re_texts.specs.MapTexts.{to_begins}
use Rattle.re_texts.specs.MapTexts.State.{InFrom, InTo}
use Rattle.re_texts.specs.SectionLines.{section_of}
use Rattle.re_texts.proofs.reading.from_line.Goals as goal
use Rattle.re_problem.specs.TextReading.{IsRefused}

pub returns-in-Ok : goal.returns-in-Ok
returns-in-Ok c = λ b n lines reads.
    let h = text-more c.args.text b n c.args.byte lines c.args.line.now reads (omega (arith, c.requires.within)) c.feed.new.self c.in-Ok.ensures in
    (InFrom b n (lines ++ c.args.line.now ∷ []), from-line c.args.byte c.args.number b n lines c.args.line.now (sym c.if-not-begins_section.ensures.test) ∙ ap (λ f. fault_or f (Ok (InFrom b n (lines ++ c.args.line.now ∷ [])))) h.0, h.1)

pub returns-in-Err : goal.returns-in-Err
returns-in-Err c = λ b n lines reads.
    subst (λ r. IsRefused r c.in-Err.fault) (sym (from-line c.args.byte c.args.number b n lines c.args.line.now (sym c.if-not-begins_section.ensures.test)))
    (text-refused c.args.text b n c.args.byte lines c.args.line.now reads (omega (arith, c.requires.within)) c.in-Err.fault (Ok (InFrom b n (lines ++ c.args.line.now ∷ []))) c.in-Err.ensures)

pub returns-in-Err-finish : goal.returns-in-Err-finish
returns-in-Err-finish c = λ b n lines reads.
    subst (λ r. IsRefused r c.in-Err-finish.fault) (sym (from-section c.args.byte c.args.number b n lines c.args.line.now (sym c.if-not-begins_section.ensures.test)))
    (text-lacks c.args.text b n c.args.byte lines c.args.line.now reads (omega (arith, c.requires.within)) c.in-Err-finish.fault (to_begins (problem_of lines) (c.args.byte + length c.args.line.now + 1) c.args.number (section_of c.args.line.now)) c.in-Err-finish.ensures)

pub returns-in-To : goal.returns-in-To
returns-in-To c = λ b n lines reads.
    let h = text-ended c.args.text b n c.args.byte lines c.args.line.now reads (omega (arith, c.requires.within)) c.in-Ok-finish.from c.in-Ok-finish.ensures in (
      InTo c.in-Ok-finish.from (c.args.byte + length c.args.line.now + 1) (c.args.number + 1) [],
      from-section c.args.byte c.args.number b n lines c.args.line.now (sym c.if-not-begins_section.ensures.test) ∙ ap (λ f. fault_or f (to_begins (problem_of lines) (c.args.byte + length c.args.line.now + 1) c.args.number (section_of c.args.line.now))) h.0
          ∙ ap (λ p. to_begins p (c.args.byte + length c.args.line.now + 1) c.args.number (section_of c.args.line.now)) (sym h.1) ∙ ap (to_begins c.in-Ok-finish.from (c.args.byte + length c.args.line.now + 1) c.args.number) (sym c.in-To.ensures.section),
      (refl, c.text_behind.ensures),
    )

pub returns-in_default : goal.returns-in_default
returns-in_default c = λ b n lines reads.
    let h = text-ended c.args.text b n c.args.byte lines c.args.line.now reads (omega (arith, c.requires.within)) c.in-Ok-finish.from c.in-Ok-finish.ensures in
    from-section c.args.byte c.args.number b n lines c.args.line.now (sym c.if-not-begins_section.ensures.test) ∙ ap (λ f. fault_or f (to_begins (problem_of lines) (c.args.byte + length c.args.line.now + 1) c.args.number (section_of c.args.line.now))) h.0
    ∙ not-to (problem_of lines) (c.args.byte + length c.args.line.now + 1) c.args.number (section_of c.args.line.now) (λ same. c.in_default.not-To (c.read_section.ensures.section ∙ same))
