use Rattle.std.proofs.Common.{◌∙◌, inl, inr, sym}
use Rattle.std.proofs.lemmas.Bool.{false≢true}
use Rattle.std.proofs.lemmas.Result.{IfOk-weaker}
use Rattle.re_search_words.proofs.answering.shortest_output.Goals as goal

pub returns-then-branch : goal.returns-then-branch
returns-then-branch c = IfOk-weaker c.shortest_same.result _ _ (λ output may. inl (c.in_ok-is_taken.ensures.0 c.if-branch.true, may)) c.shortest_same.ensures

pub returns-else-branch : goal.returns-else-branch
returns-else-branch c = IfOk-weaker c.shortest_else.result _ _ (λ output e. inr (λ taken. false≢true (sym c.if-branch.false ∙ c.in_ok-is_taken.ensures.1 taken), e)) c.shortest_else.ensures
