use Rattle.std.proofs.Common.{◌∙◌, sym}
use Rattle.re_describe.proofs.SameLists.{same_list}
use Rattle.re_describe.proofs.same_graphs.+are_same_nodes.Goals as goal

pub returns-then-are_same_ends : goal.returns-then-are_same_ends
returns-then-are_same_ends t c = λ yes.
    same_list c.args.passive.now c.args.others.now c.node-item.result c.other-item.result c.in-len1-up.len_at_least c.in-len1-up-others.len_at_least c.node-item.is c.other-item.is
    (sym c.ends.ensures.ends ∙ c.are_same_ends.ensures c.if-are_same_ends.true ∙ c.ends-2.ensures.ends) (c.are_same_nodes.ensures yes)
