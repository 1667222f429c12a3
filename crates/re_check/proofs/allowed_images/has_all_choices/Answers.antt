use Rattle.std.proofs.Common.{sym, ◌∙◌}
use Rattle.re_check.proofs.Choices.{no-choices, row-choices, row-degree}
use Rattle.re_check.proofs.allowed_images.has_all_choices.Goals as goal

pub is_good-requires : goal.is_good-requires
is_good-requires c = row-degree c.args.constraint.now c.degree-degree.ensures.constraint c.args.sets.now c.requires.degree c.requires.sets c.in-Some.row (sym c.in-Some.is ∙ c.from_sets.ensures)

pub returns-in-Some : goal.returns-in-Some
returns-in-Some c = row-choices c.args.constraint.now c.degree-degree.ensures.constraint c.args.sets.now c.requires.degree c.requires.sets c.in-Some.row c.is_good.result (sym c.in-Some.is ∙ c.from_sets.ensures) c.is_good.ensures

pub returns-in-None : goal.returns-in-None
returns-in-None c = no-choices c.args.constraint.now c.degree-degree.ensures.constraint c.args.sets.now c.requires.degree c.requires.sets (sym c.in-None.is ∙ c.from_sets.ensures)
