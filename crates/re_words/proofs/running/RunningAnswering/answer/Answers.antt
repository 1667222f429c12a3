use Rattle.std.proofs.lemmas.Result.{IfOk-weaker}
use Rattle.re_words.proofs.Said.{running_says}
use Rattle.re_frame.proofs.Said.{said}
use Rattle.re_words.proofs.running.RunningAnswering.answer.Goals as goal

pub returns-clause-says : goal.returns-clause-says
returns-clause-says c = IfOk-weaker c.text_output.result _ _ (λ output e. said output _ _ e (running_says _)) c.text_output.ensures
