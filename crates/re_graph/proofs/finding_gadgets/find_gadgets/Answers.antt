use Rattle.std.proofs.lemmas.Result.{IfOk-weaker}
use Rattle.re_graph.proofs.Answering.{cover-means}
use Rattle.re_problem.specs.NamedProblems.{unnamed}
use Rattle.re_graph.proofs.finding_gadgets.find_gadgets.Goals as goal

pub returns-clause-means : goal.returns-clause-means
returns-clause-means c = IfOk-weaker c.find_alone.result _ _ (λ found f. cover-means (unnamed c.args.problem.now) found.graph f) c.find_alone.ensures.cover
