use Rattle.std.proofs.lemmas.Result.{IfOk-weaker}
use Rattle.re_words.proofs.Said.{tabling_says}
use Rattle.re_frame.proofs.Said.{said}
use Rattle.re_words.proofs.tabling.TablingAnswering.answer.Goals as goal

pub returns-clause-says : goal.returns-clause-says
returns-clause-says c = IfOk-weaker c.table_output.result _ _ (λ output e. said output _ _ e (tabling_says c.args.self.now.0 _)) c.table_output.ensures
