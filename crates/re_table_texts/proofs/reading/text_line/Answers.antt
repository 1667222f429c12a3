use Rattle.std.proofs.Common.{◌+◌, ◌∷◌, ◌++◌, ◌∙◌, [], ap, arith, length, refl, subst, sym}
use Rattle.std.specs.Prelude.{Ok}
use Rattle.re_problem.proofs.HeldTexts.{text-ended, text-lacks, text-more, text-refused}
use Rattle.re_problem.specs.ProblemTexts.{fault_or, problem_of}
use Rattle.re_problem.specs.TextReading.{IsRefused}
use Rattle.re_table_texts.proofs.JudgedLines.{text-line, text-section}
use Rattle.re_table_texts.specs.Reading.{Holds}
use Rattle.re_table_texts.specs.SectionLines.{section_of}
use Rattle.re_table_texts.specs.TableTexts.{text_ends}
use Rattle.re_table_texts.specs.TableTexts.State.{InText}
use Rattle.re_table_texts.proofs.reading.text_line.Goals as goal

pub returns-in-Ok : goal.returns-in-Ok
returns-in-Ok c = λ b n lines reads.
    let h = text-more c.args.text b n c.args.byte lines c.args.line.now reads (omega (arith, c.requires.within)) c.feed.new.self c.in-Ok.ensures in (
      InText c.args.first b n (lines ++ c.args.line.now ∷ []),
      text-line c.args.form c.args.byte c.args.number c.args.first b n lines c.args.line.now (sym c.if-not-begins_section.ensures.test) ∙ ap (λ f. fault_or f (Ok (InText c.args.first b n (lines ++ c.args.line.now ∷ [])))) h.0,
      (refl, c.requires.first, h.1),
    )

pub returns-in-Err : goal.returns-in-Err
returns-in-Err c = λ b n lines reads.
    subst (λ r. IsRefused r c.in-Err.fault) (sym (text-line c.args.form c.args.byte c.args.number c.args.first b n lines c.args.line.now (sym c.if-not-begins_section.ensures.test)))
    (text-refused c.args.text b n c.args.byte lines c.args.line.now reads (omega (arith, c.requires.within)) c.in-Err.fault (Ok (InText c.args.first b n (lines ++ c.args.line.now ∷ []))) c.in-Err.ensures)

pub returns-in-Err-finish : goal.returns-in-Err-finish
returns-in-Err-finish c = λ b n lines reads.
    subst (λ r. IsRefused r c.in-Err-finish.fault) (sym (text-section c.args.form c.args.byte c.args.number c.args.first b n lines c.args.line.now (sym c.if-not-begins_section.ensures.test)))
    (text-lacks c.args.text b n c.args.byte lines c.args.line.now reads (omega (arith, c.requires.within)) c.in-Err-finish.fault
    (text_ends c.args.form (c.args.byte + length c.args.line.now + 1) c.args.number c.args.first (problem_of lines) (section_of c.args.line.now)) c.in-Err-finish.ensures)

pub returns : goal.returns
returns c = λ b n lines reads.
    let next = c.args.byte + length c.args.line.now + 1 in
    let h = text-ended c.args.text b n c.args.byte lines c.args.line.now reads (omega (arith, c.requires.within)) c.in-Ok-finish.problem c.in-Ok-finish.ensures in
    subst (λ r. Holds c.args.form r next c.end_text.result)
    (sym (text-section c.args.form c.args.byte c.args.number c.args.first b n lines c.args.line.now (sym c.if-not-begins_section.ensures.test)
    ∙ (λ i. fault_or (h.0 i) (text_ends c.args.form next c.args.number c.args.first (sym h.1 i) (section_of c.args.line.now)))))
    c.end_text.ensures
