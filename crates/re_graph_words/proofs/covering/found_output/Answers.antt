use Rattle.std.proofs.Common.{inl, inr}
use Rattle.std.proofs.lemmas.Result.{IfOk-weaker}
use Rattle.re_graph_words.proofs.covering.found_output.Goals as goal

pub returns-in_default : goal.returns-in_default
returns-in_default c = IfOk-weaker c.not_found.result _ _ (λ output e. inr (inl (c.args.graphs, e))) c.not_found.ensures
