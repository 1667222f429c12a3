use Rattle.std.proofs.lemmas.Result.{IfOk-weaker}
use Rattle.re_words.proofs.Extracts.{extracting_says}
use Rattle.re_frame.proofs.Said.{said}
use Rattle.re_words.proofs.extracting.ExtractingAnswering.answer.Goals as goal

pub returns-clause-says : goal.returns-clause-says
returns-clause-says c = IfOk-weaker c.text_output.result _ _ (λ output e. said output _ _ e (extracting_says _)) c.text_output.ensures.output
