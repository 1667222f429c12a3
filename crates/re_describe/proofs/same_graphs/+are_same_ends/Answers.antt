use Rattle.re_describe.proofs.SameLists.{same_list_at}
use Rattle.re_describe.proofs.same_graphs.+are_same_ends.Goals as goal

pub returns-then-is_same_end : goal.returns-then-is_same_end
returns-then-is_same_end t c = λ yes.
    same_list_at c.args.ends.now c.args.others.now _ _ c.in-len1-up.len_at_least c.in-len1-up-others.len_at_least (c.is_same_end.ensures c.if-is_same_end.true) (c.are_same_ends.ensures yes)
