use Rattle.std.proofs.Common.{◌≡◌, ◌<◌, ap, length, subst, ◌∙◌}
use Rattle.std.specs.Prelude.{IfOk}
use Rattle.re_problem.specs.NamedProblems.{NamedProblem}
use Rattle.re_cert.specs.Bounds.{Bound, is_bound}
use Rattle.re_shaping.proofs.ChangedLast.{changed-last, last-below, last-of, last-problem}
use Rattle.re_shaping.proofs.Laws.{may-merge, merged-bound, whole-merged}
use Rattle.re_shaping.specs.Merging.{merged_step}
use Rattle.re_shaping.proofs.merging.merged_last.Goals as goal

pub merged_step-requires-clause-from : goal.merged_step-requires-clause-from
merged_step-requires-clause-from c =
    let may = may-merge c.args.from c.args.to c.args.certificate.now c.requires.may in
    let last = last-of c.args.certificate.now c.steps-steps.result.now c.index-steps-steps.result c.steps-steps.ensures.steps c.requires.some c.index-steps-steps.is in
    last-problem (λ (p : NamedProblem). c.args.from < length p.names) c.args.certificate.now c.index-steps-steps.result last c.requires.some may.from

pub merged_step-requires-clause-to : goal.merged_step-requires-clause-to
merged_step-requires-clause-to c =
    let may = may-merge c.args.from c.args.to c.args.certificate.now c.requires.may in
    let last = last-of c.args.certificate.now c.steps-steps.result.now c.index-steps-steps.result c.steps-steps.ensures.steps c.requires.some c.index-steps-steps.is in
    last-problem (λ (p : NamedProblem). c.args.to < length p.names) c.args.certificate.now c.index-steps-steps.result last c.requires.some may.to

pub merged_step-requires-clause-apart : goal.merged_step-requires-clause-apart
merged_step-requires-clause-apart c = (may-merge c.args.from c.args.to c.args.certificate.now c.requires.may).apart

pub merged_step-requires-clause-below : goal.merged_step-requires-clause-below
merged_step-requires-clause-below c =
    let may = may-merge c.args.from c.args.to c.args.certificate.now c.requires.may in
    let last = last-of c.args.certificate.now c.steps-steps.result.now c.index-steps-steps.result c.steps-steps.ensures.steps c.requires.some c.index-steps-steps.is in
    last-below c.args.certificate.now c.index-steps-steps.result c.steps-steps.ensures.bound last

pub with_last-requires-clause-some : goal.with_last-requires-clause-some
with_last-requires-clause-some c =
    let may = may-merge c.args.from c.args.to c.args.certificate.now c.requires.may in
    (last-of c.args.certificate.now c.steps-steps.result.now c.index-steps-steps.result c.steps-steps.ensures.steps c.requires.some c.index-steps-steps.is).some

pub with_last-requires-clause-bound : goal.with_last-requires-clause-bound
with_last-requires-clause-bound c =
    let may = may-merge c.args.from c.args.to c.args.certificate.now c.requires.may in
    let last = last-of c.args.certificate.now c.steps-steps.result.now c.index-steps-steps.result c.steps-steps.ensures.steps c.requires.some c.index-steps-steps.is in
    ap is_bound (changed-last (merged_step c.args.from c.args.to) c.args.certificate.now c.index-steps-steps.result c.in_ok-last.last last c.in_ok-last.ensures)
    ∙ merged-bound c.args.certificate.now c.args.from c.args.to c.requires.may c.requires.some c.steps-steps.ensures.bound c.over_problems.ensures.next

pub returns : goal.returns
returns c =
    let may = may-merge c.args.from c.args.to c.args.certificate.now c.requires.may in
    let last = last-of c.args.certificate.now c.steps-steps.result.now c.index-steps-steps.result c.steps-steps.ensures.steps c.requires.some c.index-steps-steps.is in
    subst (λ (b : Bound). IfOk c.with_last.result (λ chain. chain ≡ b))
    (changed-last (merged_step c.args.from c.args.to) c.args.certificate.now c.index-steps-steps.result c.in_ok-last.last last c.in_ok-last.ensures
    ∙ whole-merged c.args.from c.args.to c.args.certificate.now c.requires.some) c.with_last.ensures
