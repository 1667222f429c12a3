use Rattle.std.proofs.lemmas.Result.{IfOk-weaker}
use Rattle.re_settle.proofs.answering.problem_output.Goals as goal

pub returns : goal.returns
returns c = IfOk-weaker c.settled_output.result _ _ (λ output e. record { classified = c.in_ok-classified.classified; lines = e; known = c.in_ok-classified.ensures }) c.settled_output.ensures
