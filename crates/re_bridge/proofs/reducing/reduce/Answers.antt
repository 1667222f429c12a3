use Rattle.std.proofs.lemmas.Result.{IfOk-weaker}
use Rattle.re_bridge.proofs.FewestImages.{reduced_rounds_law, reduction_law}
use Rattle.re_bridge.proofs.reducing.reduce.Goals as goal

pub returns-clause-reduces : goal.returns-clause-reduces
returns-clause-reduces c = IfOk-weaker c.reduced.result _ _ (λ reduced e. reduction_law c.args.problem.now c.args.tries c.names-problem.ensures.problem) c.reduced.ensures.problem

pub returns-clause-rounds : goal.returns-clause-rounds
returns-clause-rounds c = IfOk-weaker c.reduced.result _ _ (λ reduced e T. reduced_rounds_law c.args.problem.now reduced c.args.tries T c.names-problem.ensures.problem e) c.reduced.ensures.problem
