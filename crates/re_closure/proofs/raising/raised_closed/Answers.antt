use Rattle.std.proofs.Common.{◌+◌, ◌<◌, ◌≤◌, Err, ap, inl, length, rules, subst, sym, ◌∙◌}
use Rattle.re_cert.specs.Bounds.{last_problem}
use Rattle.re_cert.specs.declared.certificate.TheConstants.{MAX_STEPS}
use Rattle.re_labels.specs.declared.TheConstants.{MAX_ROWS}
use Rattle.re_problem.specs.NamedProblems.{NamedProblem, unnamed}
use Rattle.re_problem.specs.Steps.{IsRelaxed}
use Rattle.re_labels.specs.GoodRows.{max_rows}
use Rattle.re_labels.specs.declared.constraint_table.TheConstants.{MAX_CONFIGURATIONS}
use Rattle.re_closure.proofs.Computed.{err_is}
use Rattle.re_closure.proofs.Joined.{last_is, solvable_by}
use Rattle.re_closure.proofs.RaisedJoined.{raised_limit_of}
use Rattle.re_closure.proofs.RaisedProblems.{raised-named, raised-relaxed}
use Rattle.re_closure.specs.Closed.{IsClosureOf}
use Rattle.re_closure.specs.Diagrams.{raised}
use Rattle.re_closure.specs.Limits.{PassesLimit}
use Rattle.re_closure.specs.RaisedClosures.{MayRise, RaisedLimitIs}
use Rattle.re_closure.proofs.raising.raised_closed.Goals as goal

pub returns-in_err-rows-clause-limit : goal.returns-in_err-rows-clause-limit
returns-in_err-rows-clause-limit c = λ passed e.
    let room : length c.args.chain.now.certificate.steps + 3 ≤ MAX_STEPS = search rules in
    let few = subst (λ (p : NamedProblem). length (raised c.args.edges.now p).passive.configs ≤ MAX_CONFIGURATIONS) c.last.ensures c.in_ok-raised.ensures.few in
    let told = c.in_err-rows.ensures.limit passed (ap Err (err_is c.from_residual-in_err-rows.result c.in_err-rows.field-0.0 passed c.from_residual-in_err-rows.ensures.1 e)) in
    subst (RaisedLimitIs c.args.edges.now c.args.chain.now.certificate) (sym told.0)
    (room, inl (few, subst (λ (p : NamedProblem). MAX_ROWS < length (max_rows p.passive (length p.names))) c.last-2.ensures told.1))

pub returns-in_err-closure-clause-limit : goal.returns-in_err-closure-clause-limit
returns-in_err-closure-clause-limit c = λ passed e.
    let room : length c.args.chain.now.certificate.steps + 3 ≤ MAX_STEPS = search rules in
    let may : MayRise c.args.edges.now (last_problem c.args.chain.now.certificate) = record {
      configs = subst (λ (p : NamedProblem). length (raised c.args.edges.now p).passive.configs ≤ MAX_CONFIGURATIONS) c.last.ensures c.in_ok-raised.ensures.few;
      rows = subst (λ (p : NamedProblem). length (max_rows p.passive (length p.names)) ≤ MAX_ROWS) c.last-2.ensures c.in_ok-rows.ensures.few;
    } in
    let is = c.in_ok-raised.ensures.raised ∙ ap (raised c.args.edges.now) c.last.ensures in
    raised_limit_of c.args.edges.now c.args.chain.now.certificate passed room may (subst (λ (p : NamedProblem). PassesLimit (unnamed p) passed) is
    (c.in_err-closure.ensures.limit passed (ap Err (err_is c.from_residual-in_err-closure.result c.in_err-closure.field-0.0 passed c.from_residual-in_err-closure.ensures.1 e))))

pub returns-in-Some-clause-answers : goal.returns-in-Some-clause-answers
returns-in-Some-clause-answers c =
    let room : length c.args.chain.now.certificate.steps + 3 ≤ MAX_STEPS = search rules in
    let may : MayRise c.args.edges.now (last_problem c.args.chain.now.certificate) = record {
      configs = subst (λ (p : NamedProblem). length (raised c.args.edges.now p).passive.configs ≤ MAX_CONFIGURATIONS) c.last.ensures c.in_ok-raised.ensures.few;
      rows = subst (λ (p : NamedProblem). length (max_rows p.passive (length p.names)) ≤ MAX_ROWS) c.last-2.ensures c.in_ok-rows.ensures.few;
    } in
    let is = c.in_ok-raised.ensures.raised ∙ ap (raised c.args.edges.now) c.last.ensures in
    let of = subst (λ (p : NamedProblem). IsClosureOf (unnamed p) c.in_ok-closure.closure) is c.in_ok-closure.ensures.closure in
    let named = raised-named c.args.edges.now (last_problem c.args.chain.now.certificate) (last_is c.args.chain.now.certificate c.over_problems.ensures) in (
      c.requires.not_zero,
      room,
      (may, solvable_by (raised c.args.edges.now (last_problem c.args.chain.now.certificate)) named c.in_ok-closure.closure of c.in-Some.place _ (sym c.zero_round.ensures.place ∙ c.in-Some.is) c.in_ok-fit_at-in-Some.ensures),
    )

pub raised_certificate-requires-clause-relaxed : goal.raised_certificate-requires-clause-relaxed
raised_certificate-requires-clause-relaxed c =
    let is = c.in_ok-raised.ensures.raised ∙ ap (raised c.args.edges.now) c.last.ensures in
    subst (λ (p : NamedProblem). IsRelaxed (unnamed (last_problem c.args.chain.now.certificate)) (unnamed p) (λ x. x)) (sym is)
    (raised-relaxed c.args.edges.now (last_problem c.args.chain.now.certificate) (last_is c.args.chain.now.certificate c.over_problems.ensures))

pub raised_certificate-requires-clause-rows : goal.raised_certificate-requires-clause-rows
raised_certificate-requires-clause-rows c = c.in_ok-rows.ensures.rows ∙ ap (λ (p : NamedProblem). max_rows p.passive (length p.names)) c.last-2.ensures

pub raised_certificate-requires-clause-few : goal.raised_certificate-requires-clause-few
raised_certificate-requires-clause-few c = subst (λ (p : NamedProblem). length (max_rows p.passive (length p.names)) ≤ MAX_ROWS) c.last-2.ensures c.in_ok-rows.ensures.few

pub returns-clause-answers : goal.returns-clause-answers
returns-clause-answers c =
    let room : length c.args.chain.now.certificate.steps + 3 ≤ MAX_STEPS = search rules in
    let may : MayRise c.args.edges.now (last_problem c.args.chain.now.certificate) = record {
      configs = subst (λ (p : NamedProblem). length (raised c.args.edges.now p).passive.configs ≤ MAX_CONFIGURATIONS) c.last.ensures c.in_ok-raised.ensures.few;
      rows = subst (λ (p : NamedProblem). length (max_rows p.passive (length p.names)) ≤ MAX_ROWS) c.last-2.ensures c.in_ok-rows.ensures.few;
    } in
    let is = c.in_ok-raised.ensures.raised ∙ ap (raised c.args.edges.now) c.last.ensures in
    (c.requires.not_zero, room, c.in_ok-raised_certificate-in-None.ensures c.args.edges.now is may)
