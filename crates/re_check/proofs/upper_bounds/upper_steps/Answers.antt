use Rattle.std.proofs.Common.{List, subst}
use Rattle.std.specs.List.{AllByRecursion}
use Rattle.re_cert.specs.Bounds.{BoundStep, next_problems}
use Rattle.re_check.proofs.UpperBounds.{upper_where_accepted}
use Rattle.re_problem.specs.NamedProblems.{IsNamedProblem}
use Rattle.re_check.proofs.upper_bounds.upper_steps.Goals as goal

pub returns : goal.returns
returns c =
    let bound = c.args.certificate.now in
    let first : IsNamedProblem bound.first = subst IsNamedProblem c.first.ensures.first c.active-first.ensures.problem in
    let named : AllByRecursion IsNamedProblem (next_problems bound.steps) = subst (λ (s : List BoundStep). AllByRecursion IsNamedProblem (next_problems s)) c.steps.ensures.steps c.problems.ensures in
    upper_where_accepted bound c.first.ensures.bound first named
