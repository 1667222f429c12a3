use Rattle.std.proofs.Common.{◌∙◌}
use Rattle.re_labels.proofs.Patterns.{others-are, parted}
use Rattle.re_check.proofs.EqualSets.{good-row}
use Rattle.re_check.proofs.runs.is_good.Goals as goal

pub returns : goal.returns
returns c =
    good-row c.args.constraint.now c.args.row.now _ c.first-item.result c.new-drawn.result.items c.each_is.result c.requires c.sets.ensures.row
    (parted c.sets.result.now _ c.first-item.result c.in-len1-up.len_at_least c.first-item.is (others-are c.sets.result.now) ∙ c.sets.ensures.sets) c.new-drawn.ensures c.each_is.ensures.each
