use Rattle.std.proofs.Common.{subst}
use Rattle.re_labels.proofs.Patterns.{others-are, parted}
use Rattle.re_check.proofs.RowChoices.{OverMore, rows-more}
use Rattle.re_check.specs.RowEntries.{row_entries}
use Rattle.re_check.proofs.row_maps.+over_rows.Goals as goal

pub returns : goal.returns
returns t c =
    rows-more c.args.label c.args.over c.over_row-more.result c.over_rows.result c.row-item.result _ c.args.rows.now c.image-item.result _ c.args.images.now
    (parted c.args.rows.now _ c.row-item.result c.in-len1-up.len_at_least c.row-item.is (others-are c.args.rows.now))
    (parted c.args.images.now _ c.image-item.result c.in-len1-up-images.len_at_least c.image-item.is (others-are c.args.images.now))
    (subst (OverMore c.args.label c.args.over c.over_row-more.result) (λ i. row_entries (c.sets.ensures.sets i) (c.labels.ensures.labels i)) c.over_row-more.ensures) c.over_rows.ensures
