use Rattle.std.proofs.Common.{◌∙◌, sym}
use Rattle.re_describe.proofs.SameLists.{same_list}
use Rattle.re_describe.proofs.same_graphs.+are_same_labels.Goals as goal

pub returns-then-has_same_labels : goal.returns-then-has_same_labels
returns-then-has_same_labels t c = λ yes.
    same_list c.args.labels.now c.args.others.now c.own-item.result c.other-item.result c.in-len1-up.len_at_least c.in-len1-up-others.len_at_least c.own-item.is c.other-item.is
    (sym c.labels.ensures.labels ∙ c.has_same_labels.ensures c.if-has_same_labels.true ∙ c.labels-2.ensures.labels) (c.are_same_labels.ensures yes)
