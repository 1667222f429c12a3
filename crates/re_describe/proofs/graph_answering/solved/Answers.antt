use Rattle.std.proofs.Common.{subst}
use Rattle.std.proofs.lemmas.Result.{IfOk-weaker}
use Rattle.re_frame.specs.Outcomes.{outcome_of}
use Rattle.re_graph_words.specs.GraphWords.{MayGive}
use Rattle.re_graph_words.specs.declared.words.GraphWord.TheVariants.{Solve}
use Rattle.re_describe.proofs.graph_answering.solved.Goals as goal

pub returns : goal.returns
returns c = IfOk-weaker c.find.result _ _ (λ output may. subst (λ bytes. MayGive Solve bytes (outcome_of output)) c.in_ok-bytes.ensures may) c.find.ensures.output
