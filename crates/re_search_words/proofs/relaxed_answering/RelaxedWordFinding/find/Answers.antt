use Rattle.std.proofs.lemmas.Result.{IfOk-weaker}
use Rattle.re_frame.specs.Outcomes.{outcome_of}
use Rattle.re_search_words.proofs.RelaxedSaying.{give_says}
use Rattle.re_search_words.proofs.relaxed_answering.RelaxedWordFinding.find.Goals as goal

pub returns-clause-says : goal.returns-clause-says
returns-clause-says c = IfOk-weaker c.text_output.result _ _ (λ output may. give_says c.args.self.now _ (outcome_of output) may) c.text_output.ensures
