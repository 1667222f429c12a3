use Rattle.std.proofs.Common.{cond, sym, ap, ◌∙◌}
use Rattle.re_problem.specs.SectionLines.{section_name}
use Rattle.re_texts.specs.SectionLines.{section_named, section_of}
use Rattle.re_texts.specs.declared.sections.Section.TheVariants.{Other}
use Rattle.re_texts.proofs.sections.read_section.Goals as goal
use Rattle.std.specs.Option.{option_map_or}

pub returns-then-not-begins_section-clause-section : goal.returns-then-not-begins_section-clause-section
unfolding section_of
returns-then-not-begins_section-clause-section c =
    sym (ap (λ t. cond t (option_map_or section_named (section_name c.args.line.now) Other) Other) (sym c.begins_section.ensures.test ∙ c.if-not-begins_section.true))

pub returns-in-Some-clause-section : goal.returns-in-Some-clause-section
unfolding section_of
returns-in-Some-clause-section c =
    c.section_by_name.ensures ∙ sym (ap (λ name. option_map_or section_named name Other) c.in-Some.ensures)
    ∙ sym (ap (λ t. cond t (option_map_or section_named (section_name c.args.line.now) Other) Other) (sym c.begins_section.ensures.test ∙ c.if-not-begins_section.false))

pub returns-in-None-clause-section : goal.returns-in-None-clause-section
unfolding section_of
returns-in-None-clause-section c =
    sym (ap (λ name. option_map_or section_named name Other) c.in-None.ensures)
    ∙ sym (ap (λ t. cond t (option_map_or section_named (section_name c.args.line.now) Other) Other) (sym c.begins_section.ensures.test ∙ c.if-not-begins_section.false))
