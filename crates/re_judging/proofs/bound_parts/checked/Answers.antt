use Rattle.std.proofs.Common.{◌≡◌, ◌∙◌, subst, sym}
use Rattle.re_judging.proofs.PartLaws.{bound_true}
use Rattle.re_judging.specs.Facts.{FactHolds}
use Rattle.re_problem.specs.NamedProblems.{NamedProblem, unnamed}
use Rattle.re_problem.specs.Problems.{IsProblem}
use Rattle.re_judging.proofs.bound_parts.checked.Goals as goal

pub returns-in_ok-copy-in-Accepted-clause-means : goal.returns-in_ok-copy-in-Accepted-clause-means
returns-in_ok-copy-in-Accepted-clause-means c =
    let bound = c.args.certificate.now in
    let same : bound.first ≡ c.in_ok-copy-in-Accepted.field-0 = sym (c.in_ok-copy-in-Accepted.ensures ∙ c.first.ensures.first) in (
      subst (λ (p : NamedProblem). IsProblem (unnamed p)) same c.over_problems.ensures.first.problem,
      subst (λ (p : NamedProblem). FactHolds c.bound_fact.result (unnamed p)) same
          (subst (λ f. FactHolds f (unnamed bound.first)) (sym c.bound_fact.ensures)
          (bound_true bound c.in-Accepted.kind c.in-Accepted.steps (record { fits = c.kind-kind.ensures.bound; first = c.over_problems.ensures.first; next = c.over_problems.ensures.next })
          (sym c.in-Accepted.ensures.verdict) c.in-Accepted.ensures.means)),
    )
