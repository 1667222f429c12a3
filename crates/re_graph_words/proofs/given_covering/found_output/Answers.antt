use Rattle.std.proofs.Common.{inl, inr}
use Rattle.std.proofs.lemmas.Result.{IfOk-weaker}
use Rattle.re_graph_words.proofs.given_covering.found_output.Goals as goal

pub returns-else-branch : goal.returns-else-branch
returns-else-branch c = IfOk-weaker c.not_found.result _ _ (λ output e. inr (inl (c.args.graphs, e))) c.not_found.ensures
