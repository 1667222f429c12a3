use Rattle.std.proofs.lemmas.Result.{IfOk-weaker}
use Rattle.re_graph.proofs.Answering.{answered, meant}
use Rattle.re_graph.proofs.solving.solve.Goals as goal
use Rattle.re_problem.specs.NamedProblems.{unnamed}

pub returns-clause-answer : goal.returns-clause-answer
returns-clause-answer c =
    IfOk-weaker c.first_labels.result _ _ (λ labels f. answered (unnamed c.args.problem.now) c.args.graph.now c.args.tries c.names-problem.ensures.problem.problem
    (record { is_graph = c.passive-graph.ensures.graph; active_degree = c.requires.active; passive_degree = c.requires.passive }) (λ v. v.items) labels f) c.first_labels.ensures.walked

pub returns-clause-means : goal.returns-clause-means
returns-clause-means c =
    IfOk-weaker c.first_labels.result _ _ (λ labels f. meant (unnamed c.args.problem.now) c.args.graph.now c.args.tries c.names-problem.ensures.problem.problem
    (record { is_graph = c.passive-graph.ensures.graph; active_degree = c.requires.active; passive_degree = c.requires.passive }) (λ v. v.items) labels f) c.first_labels.ensures.walked
