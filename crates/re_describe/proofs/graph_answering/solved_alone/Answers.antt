use Rattle.std.proofs.lemmas.Result.{IfOk-weaker}
use Rattle.re_frame.specs.Outcomes.{outcome_of}
use Rattle.re_describe.proofs.Solved.{alone_answer, alone_means}
use Rattle.re_describe.proofs.graph_answering.solved_alone.Goals as goal

pub returns-clause-answer : goal.returns-clause-answer
returns-clause-answer c = IfOk-weaker c.solved.result _ _ (λ output may. alone_answer c.args.text.now (outcome_of output) c.requires.alone may) c.solved.ensures

pub returns-clause-means : goal.returns-clause-means
returns-clause-means c = IfOk-weaker c.solved.result _ _ (λ output may. alone_means c.args.text.now (outcome_of output) c.requires.alone may) c.solved.ensures
