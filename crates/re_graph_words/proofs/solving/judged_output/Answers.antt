use Rattle.std.proofs.lemmas.Result.{IfOk-weaker}
use Rattle.re_frame.specs.Outcomes.{outcome_of}
use Rattle.re_graph_words.proofs.Meant.{meant}
use Rattle.re_graph_words.proofs.solving.judged_output.Goals as goal

pub returns-clause-means : goal.returns-clause-means
returns-clause-means c =
    IfOk-weaker c.solution_output.result _ _ (λ output e. meant c.args.problem.now c.args.graph.now c.names-problem.ensures.problem.problem
    (record { is_graph = c.passive-graph.ensures.graph; active_degree = c.requires.active; passive_degree = c.requires.passive }) (outcome_of output) e) c.solution_output.ensures
