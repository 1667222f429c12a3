use Rattle.std.proofs.Common.{subst, sym}
use Rattle.re_problem.specs.NamedProblems.{unnamed}
use Rattle.re_graph.proofs.Judged.{judged}
use Rattle.re_graph.specs.Judging.{IsJudged}
use Rattle.re_graph.proofs.judging.labels_fault.Goals as goal

pub returns-clause-judged : goal.returns-clause-judged
returns-clause-judged c =
    subst (IsJudged (unnamed c.args.problem.now) c.args.graph.now c.args.nodes.now) (sym c.first_fault.ensures) (judged (unnamed c.args.problem.now) c.args.graph.now c.args.nodes.now c.requires)
