use Rattle.re_frame.specs.Outcomes.{outcome_of, status_of}
use Rattle.re_explore.proofs.Evidences.{of_first}
use Rattle.re_explore.proofs.evidence.is_evidence.Goals as goal
use Rattle.std.proofs.Common.{ap}
use Rattle.std.proofs.lemmas.Result.{IfOk-weaker}

pub returns-in-Done-clause-holds : goal.returns-in-Done-clause-holds
returns-in-Done-clause-holds c =
    let outcome = outcome_of c.in_ok-output.output in
    let may = c.in_ok-output.ensures in
    let done = ap status_of c.in-Done.is in
    IfOk-weaker c.is_of_first.result _ _
    (λ is first same. record {
      few = c.requires;
      outcome = outcome;
      may = may;
      holds = done;
      of_problem = of_first c.judge_law.ensures c.args.problem.now c.args.text.now outcome may done (first same);
    })
    c.is_of_first.ensures.holds
