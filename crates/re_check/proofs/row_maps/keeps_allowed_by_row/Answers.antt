use Rattle.re_check.proofs.RowChoices.{kept-by_row}
use Rattle.re_check.proofs.row_maps.keeps_allowed_by_row.Goals as goal
use Rattle.re_labels.specs.declared.TheConstants.{MAX_LABELS}

pub returns : goal.returns
returns c = kept-by_row MAX_LABELS c.args.from.now c.args.to.now c.args.rows.now c.args.images.now c.takes_all_choices.result c.degree-degree.ensures.constraint c.takes_all_choices.ensures
