use Rattle.std.proofs.Common.{◌≡◌, IfOk, Some, subst}
use Rattle.re_problem.specs.NamedProblems.{NamedProblem, unnamed}
use Rattle.re_step.specs.Derivations.{derivation, step_limit}
use Rattle.re_search.proofs.derivations.Derivations.derive.Goals as goal

pub returns-clause-derived : goal.returns-clause-derived
returns-clause-derived c =
    subst (λ (p : NamedProblem). IfOk c.answer-answer.result (λ derived. derived ≡ derivation (unnamed p))) c.in_ok-copy.ensures c.answer-answer.ensures.derived

pub returns-clause-limit : goal.returns-clause-limit
returns-clause-limit c limit is =
    subst (λ (p : NamedProblem). step_limit (unnamed p) ≡ Some limit) c.in_ok-copy.ensures (c.answer-answer.ensures.limit limit is)
