use Rattle.std.proofs.Common.{◌∷◌, ◌++◌, ◌∙◌, [], ap, arith, refl, subst, sym}
use Rattle.std.specs.Prelude.{Ok}
use Rattle.re_problem.proofs.HeldTexts.{text-ended, text-lacks, text-more, text-refused}
use Rattle.re_problem.specs.ProblemTexts.{fault_or, problem_of}
use Rattle.re_texts.proofs.JudgedLines.{not-map, to-line, to-section}
use Rattle.re_texts.specs.MapTexts.{map_begins}
use Rattle.re_texts.specs.MapTexts.State.{InMap, InTo}
use Rattle.re_texts.specs.SectionLines.{section_of}
use Rattle.re_texts.proofs.reading.to_line.Goals as goal
use Rattle.re_problem.specs.TextReading.{IsRefused}

pub returns-in-Ok : goal.returns-in-Ok
returns-in-Ok c = λ b n lines reads.
    let h = text-more c.args.text b n c.args.byte lines c.args.line.now reads (omega (arith, c.requires.within)) c.feed.new.self c.in-Ok.ensures in
    (InTo c.args.from b n (lines ++ c.args.line.now ∷ []), to-line c.args.number c.args.from b n lines c.args.line.now (sym c.if-not-begins_section.ensures.test) ∙ ap (λ f. fault_or f (Ok (InTo c.args.from b n (lines ++ c.args.line.now ∷ [])))) h.0, (refl, h.1))

pub returns-in-Err : goal.returns-in-Err
returns-in-Err c = λ b n lines reads.
    subst (λ r. IsRefused r c.in-Err.fault) (sym (to-line c.args.number c.args.from b n lines c.args.line.now (sym c.if-not-begins_section.ensures.test)))
    (text-refused c.args.text b n c.args.byte lines c.args.line.now reads (omega (arith, c.requires.within)) c.in-Err.fault (Ok (InTo c.args.from b n (lines ++ c.args.line.now ∷ []))) c.in-Err.ensures)

pub returns-in-Err-finish : goal.returns-in-Err-finish
returns-in-Err-finish c = λ b n lines reads.
    subst (λ r. IsRefused r c.in-Err-finish.fault) (sym (to-section c.args.number c.args.from b n lines c.args.line.now (sym c.if-not-begins_section.ensures.test)))
    (text-lacks c.args.text b n c.args.byte lines c.args.line.now reads (omega (arith, c.requires.within)) c.in-Err-finish.fault (map_begins c.args.from (problem_of lines) c.args.number (section_of c.args.line.now)) c.in-Err-finish.ensures)

pub returns-in-Map : goal.returns-in-Map
returns-in-Map c = λ b n lines reads.
    let h = text-ended c.args.text b n c.args.byte lines c.args.line.now reads (omega (arith, c.requires.within)) c.in-Ok-finish.to c.in-Ok-finish.ensures in (
      InMap c.args.from c.in-Ok-finish.to [],
      to-section c.args.number c.args.from b n lines c.args.line.now (sym c.if-not-begins_section.ensures.test) ∙ ap (λ f. fault_or f (map_begins c.args.from (problem_of lines) c.args.number (section_of c.args.line.now))) h.0
          ∙ ap (λ p. map_begins c.args.from p c.args.number (section_of c.args.line.now)) (sym h.1) ∙ ap (map_begins c.args.from c.in-Ok-finish.to c.args.number) (sym c.in-Map.ensures.section),
      (refl, refl, c.new.ensures),
    )

pub returns-in_default : goal.returns-in_default
returns-in_default c = λ b n lines reads.
    let h = text-ended c.args.text b n c.args.byte lines c.args.line.now reads (omega (arith, c.requires.within)) c.in-Ok-finish.to c.in-Ok-finish.ensures in
    to-section c.args.number c.args.from b n lines c.args.line.now (sym c.if-not-begins_section.ensures.test) ∙ ap (λ f. fault_or f (map_begins c.args.from (problem_of lines) c.args.number (section_of c.args.line.now))) h.0
    ∙ not-map c.args.from (problem_of lines) c.args.number (section_of c.args.line.now) (λ same. c.in_default.not-Map (c.read_section.ensures.section ∙ same))
