use Rattle.std.proofs.Common.{subst}
use Rattle.std.proofs.lemmas.Result.{IfOk-weaker}
use Rattle.re_settings.specs.InputProblems.{IsJudged as IsInputJudged}
use Rattle.re_frame.specs.Outcomes.{outcome_of}
use Rattle.re_graph.specs.Judging.{IsJudged}
use Rattle.re_problem.specs.NamedProblems.{unnamed}
use Rattle.re_graph_words.proofs.GivenMeant.{given-meant}
use Rattle.re_graph_words.proofs.given_solving.meant_output.Goals as goal

pub returns-clause-means : goal.returns-clause-means
returns-clause-means c =
    let given = c.args.given.now in
    IfOk-weaker c.labelled_output.result _ _ (λ output e. given-meant c.no_solution_given_law.ensures (record { given = given; labels = c.args.labels.now }) (outcome_of output) c.names-problem.ensures.problem.problem
    (record { is_graph = c.passive-graph.ensures.graph; active_degree = c.requires.active; passive_degree = c.requires.passive })
    (subst (IsInputJudged given.problem given.input) c.input_fault-fault.ensures.fault c.input_fault-fault.ensures.judged)
    (subst (IsJudged (unnamed given.input) given.graph c.args.labels.now) c.labels_fault-labels.ensures.fault c.labels_fault-labels.ensures.judged) e) c.labelled_output.ensures
