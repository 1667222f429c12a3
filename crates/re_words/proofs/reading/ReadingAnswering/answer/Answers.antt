use Rattle.std.proofs.lemmas.Result.{IfOk-weaker}
use Rattle.re_words.proofs.Said.{reading_says}
use Rattle.re_frame.proofs.Said.{said}
use Rattle.re_words.proofs.reading.ReadingAnswering.answer.Goals as goal

pub returns-clause-says : goal.returns-clause-says
returns-clause-says c = IfOk-weaker c.text_output.result _ _ (λ output e. said output _ _ e (reading_says c.args.self.now _)) c.text_output.ensures.output
