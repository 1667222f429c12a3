use Rattle.std.proofs.Common.{◌∙◌, [], arith, refl, sym}
use Rattle.re_choice.proofs.Beginning.{asked_length, asked_none, asked_some}
use Rattle.re_given_words.proofs.drawing.is_allowed.Goals as goal

pub allows-requires : goal.allows-requires
allows-requires c =
    asked_length c.args.active.now [] c.args.sets.now c.args.sets.now refl (omega (arith, c.requires, c.degree-degree.ensures.constraint.least)) (omega (arith, c.requires, c.degree-degree.ensures.constraint.most)) tt c.are_sets.ensures
    c.in-Some.row (sym c.in-Some.is ∙ c.from_sets.ensures)
    ∙ c.requires

pub returns-in-Some : goal.returns-in-Some
returns-in-Some c =
    c.allows.ensures
    ∙ asked_some c.args.active.now [] c.args.sets.now c.args.sets.now refl (omega (arith, c.requires, c.degree-degree.ensures.constraint.least)) (omega (arith, c.requires, c.degree-degree.ensures.constraint.most)) tt c.are_sets.ensures
    c.in-Some.row (sym c.in-Some.is ∙ c.from_sets.ensures)

pub returns-in-None : goal.returns-in-None
returns-in-None c =
    asked_none c.args.active.now [] c.args.sets.now c.args.sets.now refl (omega (arith, c.requires, c.degree-degree.ensures.constraint.least)) (omega (arith, c.requires, c.degree-degree.ensures.constraint.most)) (sym c.in-None.is ∙ c.from_sets.ensures)
