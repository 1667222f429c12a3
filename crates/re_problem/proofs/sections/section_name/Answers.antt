use Rattle.std.proofs.Common.{◌∷◌, cond, sym, ap, ◌∙◌, None, Some}
use Rattle.re_problem.specs.SectionLines.{name_in}
use Rattle.re_problem.proofs.sections.section_name.Goals as goal

pub returns-in_default : goal.returns-in_default
returns-in_default c = ap name_in c.in_default.ensures

pub returns-in_default-next_word : goal.returns-in_default-next_word
returns-in_default-next_word c = ap name_in (c.in-Some.ensures ∙ ap (λ more. c.in-Some.mark.now ∷ more) c.in_default-next_word.ensures)

pub returns-in_default-next_word-2 : goal.returns-in_default-next_word-2
returns-in_default-next_word-2 c =
    ap name_in (c.in-Some.ensures ∙ ap (λ more. c.in-Some.mark.now ∷ more) (c.in-Some-next_word.ensures
    ∙ ap (λ more. c.in-Some-next_word.name.now ∷ more) c.in_default-next_word-2.ensures))

pub returns-then-eq : goal.returns-then-eq
returns-then-eq c =
    ap name_in (c.in-Some.ensures ∙ ap (λ more. c.in-Some.mark.now ∷ more) (c.in-Some-next_word.ensures
    ∙ ap (λ more. c.in-Some-next_word.name.now ∷ more) c.in-None.ensures))
    ∙ ap (λ t. cond t (Some c.in-Some-next_word.name.now) None) (sym c.eq.ensures ∙ c.if-eq.true)

pub returns-else-eq : goal.returns-else-eq
returns-else-eq c =
    ap name_in (c.in-Some.ensures ∙ ap (λ more. c.in-Some.mark.now ∷ more) (c.in-Some-next_word.ensures
    ∙ ap (λ more. c.in-Some-next_word.name.now ∷ more) c.in-None.ensures))
    ∙ ap (λ t. cond t (Some c.in-Some-next_word.name.now) None) (sym c.eq.ensures ∙ c.if-eq.false)
