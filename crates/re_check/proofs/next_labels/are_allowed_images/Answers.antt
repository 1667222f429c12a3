use Rattle.std.proofs.Common.{◌∙◌}
use Rattle.re_check.proofs.NextLabels.{allowed-tells}
use Rattle.re_check.proofs.next_labels.are_allowed_images.Goals as goal

pub returns : goal.returns
returns c =
    allowed-tells c.args.entries.now c.args.next.now c.args.before.now c.as_slice.result.now c.first_not_allowed.result c.is_none.result (c.as_slice.ensures.value ∙ c.sets_of-sets.ensures.sets) c.first_not_allowed.ensures c.is_none.ensures
