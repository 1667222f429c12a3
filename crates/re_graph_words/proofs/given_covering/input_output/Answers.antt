use Rattle.std.proofs.Common.{inl, inr}
use Rattle.std.proofs.lemmas.Result.{IfOk-weaker}
use Rattle.re_graph_words.proofs.given_covering.input_output.Goals as goal

pub returns : goal.returns
returns c = IfOk-weaker c.not_found.result _ _ (λ output e. inr (inl (c.in_ok-found.found.graphs, e))) c.not_found.ensures
