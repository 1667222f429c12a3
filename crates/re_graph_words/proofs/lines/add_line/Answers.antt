use Rattle.std.proofs.Common.{◌+◌, ◌∷◌, ◌∙◌, [], ap, refl, sym}
use Rattle.re_problem.specs.SectionLines.{words_of}
use Rattle.re_graph_words.specs.GraphLines.{graph_from, line_from}
use Rattle.re_graph_words.proofs.LineSteps.{line-empty, line-fault, line-on, line-section}
use Rattle.re_graph_words.proofs.lines.add_line.Goals as goal

pub returns-then-is_empty_line : goal.returns-then-is_empty_line
returns-then-is_empty_line c = λ lines. line-empty c.args.degrees c.args.number c.args.passive.now.items (c.args.line.now ∷ lines) c.args.line.now lines refl (sym c.is_empty_line.ensures ∙ c.if-is_empty_line.true)

pub returns-then-begins_section : goal.returns-then-begins_section
returns-then-begins_section c = λ lines.
    line-section c.args.degrees c.args.number c.args.passive.now.items (c.args.line.now ∷ lines) c.args.line.now lines refl (sym c.is_empty_line.ensures ∙ c.if-is_empty_line.false)
    (sym c.begins_section.ensures.test ∙ c.if-begins_section.true)

pub returns-in-Err : goal.returns-in-Err
returns-in-Err c = λ lines.
    line-fault c.args.degrees c.args.number c.args.passive.now.items (c.args.line.now ∷ lines) c.args.line.now lines c.in-Err.fault refl (sym c.is_empty_line.ensures ∙ c.if-is_empty_line.false)
    (sym c.begins_section.ensures.test ∙ c.if-begins_section.false)
    (ap (λ passive. line_from c.args.degrees c.args.number passive [] (words_of c.args.line.now)) (sym c.as_slice.ensures.value) ∙ sym c.read_line.ensures ∙ c.in-Err.is)

pub returns-in-Ok-push : goal.returns-in-Ok-push
returns-in-Ok-push c = λ lines.
    line-on c.args.degrees c.args.number c.args.passive.now.items (c.args.line.now ∷ lines) c.args.line.now lines c.in-Ok.ends refl (sym c.is_empty_line.ensures ∙ c.if-is_empty_line.false)
    (sym c.begins_section.ensures.test ∙ c.if-begins_section.false)
    (ap (λ passive. line_from c.args.degrees c.args.number passive [] (words_of c.args.line.now)) (sym c.as_slice.ensures.value) ∙ sym c.read_line.ensures ∙ c.in-Ok.is)
    ∙ ap (λ passive. graph_from c.args.degrees (c.args.number + 1) passive lines) (sym c.in-Ok-push.ensures.items)
