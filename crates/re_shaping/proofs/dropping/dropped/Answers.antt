use Rattle.std.proofs.Common.{◌≡◌, ◌<◌, ap, length, subst, ◌∙◌}
use Rattle.std.specs.Prelude.{IfOk}
use Rattle.re_problem.specs.NamedProblems.{NamedProblem}
use Rattle.re_cert.specs.Bounds.{Bound, is_bound}
use Rattle.re_shaping.proofs.ChangedLast.{changed-last, last-below, last-fits, last-of, last-problem}
use Rattle.re_shaping.proofs.Laws.{dropped-bound, may-drop}
use Rattle.re_shaping.proofs.StepsAlong.{is-upper}
use Rattle.re_shaping.specs.Dropping.{dropped_step}
use Rattle.re_shaping.proofs.dropping.dropped.Goals as goal

pub dropped_step-requires-clause-upper : goal.dropped_step-requires-clause-upper
dropped_step-requires-clause-upper c =
    let may = may-drop c.args.label c.args.certificate.now c.requires in
    let last = last-of c.args.certificate.now c.steps-steps.result.now c.index-steps-steps.result c.steps-steps.ensures.steps may.some c.index-steps-steps.is in
    let (before, fits) = last-fits c.args.certificate.now c.index-steps-steps.result c.steps-steps.ensures.bound last in
    (is-upper c.args.certificate.now.kind before c.index-steps-steps.result may.upper fits).0

pub dropped_step-requires-clause-label : goal.dropped_step-requires-clause-label
dropped_step-requires-clause-label c =
    let may = may-drop c.args.label c.args.certificate.now c.requires in
    let last = last-of c.args.certificate.now c.steps-steps.result.now c.index-steps-steps.result c.steps-steps.ensures.steps may.some c.index-steps-steps.is in
    last-problem (λ (p : NamedProblem). c.args.label < length p.names) c.args.certificate.now c.index-steps-steps.result last may.some may.label

pub dropped_step-requires-clause-below : goal.dropped_step-requires-clause-below
dropped_step-requires-clause-below c =
    let may = may-drop c.args.label c.args.certificate.now c.requires in
    let last = last-of c.args.certificate.now c.steps-steps.result.now c.index-steps-steps.result c.steps-steps.ensures.steps may.some c.index-steps-steps.is in
    last-below c.args.certificate.now c.index-steps-steps.result c.steps-steps.ensures.bound last

pub with_last-requires-clause-some : goal.with_last-requires-clause-some
with_last-requires-clause-some c =
    let may = may-drop c.args.label c.args.certificate.now c.requires in
    (last-of c.args.certificate.now c.steps-steps.result.now c.index-steps-steps.result c.steps-steps.ensures.steps may.some c.index-steps-steps.is).some

pub with_last-requires-clause-bound : goal.with_last-requires-clause-bound
with_last-requires-clause-bound c =
    let may = may-drop c.args.label c.args.certificate.now c.requires in
    let last = last-of c.args.certificate.now c.steps-steps.result.now c.index-steps-steps.result c.steps-steps.ensures.steps may.some c.index-steps-steps.is in
    ap is_bound (changed-last (dropped_step c.args.label) c.args.certificate.now c.index-steps-steps.result c.in_ok-last.last last c.in_ok-last.ensures)
    ∙ dropped-bound c.args.certificate.now c.args.label c.requires c.steps-steps.ensures.bound c.over_problems.ensures.next

pub returns : goal.returns
returns c =
    let may = may-drop c.args.label c.args.certificate.now c.requires in
    let last = last-of c.args.certificate.now c.steps-steps.result.now c.index-steps-steps.result c.steps-steps.ensures.steps may.some c.index-steps-steps.is in
    subst (λ (b : Bound). IfOk c.with_last.result (λ chain. chain ≡ b))
    (changed-last (dropped_step c.args.label) c.args.certificate.now c.index-steps-steps.result c.in_ok-last.last last c.in_ok-last.ensures) c.with_last.ensures
