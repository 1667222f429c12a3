use Rattle.std.proofs.Common.{◌+◌, ◌≤◌, Err, length, rules, sym, ap, ◌∙◌, subst}
use Rattle.re_cert.specs.Bounds.{last_problem}
use Rattle.re_cert.specs.declared.certificate.TheConstants.{MAX_STEPS}
use Rattle.re_problem.specs.NamedProblems.{NamedProblem, unnamed}
use Rattle.re_closure.proofs.Computed.{err_is, limit_of}
use Rattle.re_closure.proofs.Joined.{last_is, solvable_by}
use Rattle.re_closure.specs.Closed.{IsClosureOf}
use Rattle.re_closure.specs.Limits.{PassesLimit}
use Rattle.re_closure.proofs.finding.closed.Goals as goal

pub returns-in_err-closure-clause-limit : goal.returns-in_err-closure-clause-limit
returns-in_err-closure-clause-limit c = λ passed e.
    let room : length c.args.chain.now.certificate.steps + 3 ≤ MAX_STEPS = search rules in
    limit_of c.args.chain.now.certificate passed room (subst (λ (p : NamedProblem). PassesLimit (unnamed p) passed) c.last.ensures
    (c.in_err-closure.ensures.limit passed (ap Err (err_is c.from_residual.result c.in_err-closure.field-0.0 passed c.from_residual.ensures.1 e))))

pub returns-in_ok-fit_at-in-Some-clause-answers : goal.returns-in_ok-fit_at-in-Some-clause-answers
returns-in_ok-fit_at-in-Some-clause-answers c =
    let room : length c.args.chain.now.certificate.steps + 3 ≤ MAX_STEPS = search rules in
    let of = subst (λ (p : NamedProblem). IsClosureOf (unnamed p) c.in_ok-closure.closure) c.last.ensures c.in_ok-closure.ensures.closure in
    (c.requires, room, solvable_by (last_problem c.args.chain.now.certificate) (last_is c.args.chain.now.certificate c.over_problems.ensures) c.in_ok-closure.closure of c.in-Some.place _ (sym c.zero_round.ensures.place ∙ c.in-Some.is) c.in_ok-fit_at-in-Some.ensures)
