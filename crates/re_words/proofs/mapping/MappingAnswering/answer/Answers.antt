use Rattle.std.proofs.lemmas.Result.{IfOk-weaker}
use Rattle.re_words.proofs.Said.{mapping_says}
use Rattle.re_frame.proofs.Said.{said}
use Rattle.re_words.proofs.mapping.MappingAnswering.answer.Goals as goal

pub returns-clause-says : goal.returns-clause-says
returns-clause-says c = IfOk-weaker c.map_output.result _ _ (λ output e. said output _ _ e (mapping_says c.args.self.now _)) c.map_output.ensures
