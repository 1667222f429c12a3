use Rattle.std.proofs.Common.{◌∙◌, refl, sym}
use Rattle.re_check.proofs.RowChoices.{all-low, high-label}
use Rattle.re_check.proofs.Telling.{tells-false}
use Rattle.re_check.proofs.row_maps.is_image.Goals as goal

pub returns-then-not-are_labels : goal.returns-then-not-are_labels
returns-then-not-are_labels c =
    tells-false _ refl (high-label c.args.to.now c.args.image.now c.labels-labels.result.now c.degree-degree.ensures.constraint c.labels-labels.ensures.labels (sym c.are_labels.ensures ∙ c.if-not-are_labels.true))

pub from_labels-requires-clause-below : goal.from_labels-requires-clause-below
from_labels-requires-clause-below c = all-low c.labels-labels.result.now (sym c.are_labels.ensures ∙ c.if-not-are_labels.false)
