use Rattle.std.proofs.Common.{get_or}
use Rattle.std.proofs.lemmas.List.{get_or_default}
use Rattle.re_labels.proofs.Patterns.{others-are, parted}
use Rattle.re_check.proofs.RowChoices.{row-more}
use Rattle.re_check.proofs.row_maps.+over_row.Goals as goal

pub returns : goal.returns
returns t c =
    let first = get_or c.args.image.now 0 0 in
    row-more c.args.label c.args.over c.with_image-more.result c.over_row.result c.set-item.result _ c.args.sets.now first _ c.args.image.now
    (parted c.args.sets.now _ c.set-item.result c.in-len1-up.len_at_least c.set-item.is (others-are c.args.sets.now))
    (parted c.args.image.now _ first c.in-len1-up-image.len_at_least (get_or_default c.args.image.now 0 0 first c.in-len1-up-image.len_at_least) (others-are c.args.image.now)) c.with_image-more.ensures c.over_row.ensures
