use Rattle.std.proofs.Common.{◌∷◌, cond, sym, ap, ◌∙◌}
use Rattle.re_problem.specs.SectionLines.{words_of}
use Rattle.re_table_texts.specs.SectionLines.{section_in, section_named, section_of}
use Rattle.re_table_texts.specs.declared.sections.Section.TheVariants.{Other}
use Rattle.re_table_texts.proofs.sections.read_section.Goals as goal

pub returns-then-not-begins_section-clause-section : goal.returns-then-not-begins_section-clause-section
unfolding section_of
returns-then-not-begins_section-clause-section c =
    sym (ap (λ t. cond t (section_in (words_of c.args.line.now)) Other) (sym c.begins_section.ensures.test ∙ c.if-not-begins_section.true))

pub returns-in_default-next_word-clause-section : goal.returns-in_default-next_word-clause-section
unfolding section_of
returns-in_default-next_word-clause-section c =
    sym (ap (λ t. cond t (section_in (words_of c.args.line.now)) Other) (sym c.begins_section.ensures.test ∙ c.if-not-begins_section.false)
    ∙ ap section_in (c.in-Some.ensures ∙ ap (λ words. c.in-Some.mark.now ∷ words) c.in_default-next_word.ensures))

pub returns-then-eq-clause-section : goal.returns-then-eq-clause-section
unfolding section_of
returns-then-eq-clause-section c =
    c.section_by_name.ensures
    ∙ sym (ap (λ t. cond t (section_in (words_of c.args.line.now)) Other) (sym c.begins_section.ensures.test ∙ c.if-not-begins_section.false)
    ∙ ap section_in (c.in-Some.ensures ∙ ap (λ words. c.in-Some.mark.now ∷ words) c.in-Some-next_word.ensures)
    ∙ ap (λ t. cond t (section_named c.in-Some-next_word.name.now (words_of c.in-Some-next_word.rest.now)) Other) (sym c.eq.ensures ∙ c.if-eq.true))

pub returns-else-eq-clause-section : goal.returns-else-eq-clause-section
unfolding section_of
returns-else-eq-clause-section c =
    sym (ap (λ t. cond t (section_in (words_of c.args.line.now)) Other) (sym c.begins_section.ensures.test ∙ c.if-not-begins_section.false)
    ∙ ap section_in (c.in-Some.ensures ∙ ap (λ words. c.in-Some.mark.now ∷ words) c.in-Some-next_word.ensures)
    ∙ ap (λ t. cond t (section_named c.in-Some-next_word.name.now (words_of c.in-Some-next_word.rest.now)) Other) (sym c.eq.ensures ∙ c.if-eq.false))
