use Rattle.std.proofs.Common.{◌≡◌, ◌<◌, ap, false, length, subst, sym, ◌∙◌}
use Rattle.std.specs.Prelude.{IfOk}
use Rattle.re_problem.specs.NamedProblems.{NamedProblem}
use Rattle.re_cert.specs.Bounds.{Bound, is_bound}
use Rattle.re_shaping.proofs.ChangedLast.{changed-last, last-below, last-of, last-problem}
use Rattle.re_shaping.proofs.Laws.{may-name, named-bound, whole-named}
use Rattle.re_shaping.proofs.NewNames.{not-nil}
use Rattle.re_shaping.specs.Naming.{is_taken, named_step}
use Rattle.re_shaping.proofs.naming.named.Goals as goal

pub named_step-requires-clause-label : goal.named_step-requires-clause-label
named_step-requires-clause-label c =
    let may = may-name c.args.label c.args.name.now c.args.certificate.now c.requires in
    let some = not-nil c.steps-steps.result.now c.args.certificate.now.steps c.steps-steps.ensures.steps (sym c.if-is_empty.false ∙ c.is_empty.ensures) in
    let last = last-of c.args.certificate.now c.steps-steps.result.now c.index-steps-steps.result c.steps-steps.ensures.steps some c.index-steps-steps.is in
    last-problem (λ (p : NamedProblem). c.args.label < length p.names) c.args.certificate.now c.index-steps-steps.result last some may.label

pub named_step-requires-clause-free : goal.named_step-requires-clause-free
named_step-requires-clause-free c =
    let may = may-name c.args.label c.args.name.now c.args.certificate.now c.requires in
    let some = not-nil c.steps-steps.result.now c.args.certificate.now.steps c.steps-steps.ensures.steps (sym c.if-is_empty.false ∙ c.is_empty.ensures) in
    let last = last-of c.args.certificate.now c.steps-steps.result.now c.index-steps-steps.result c.steps-steps.ensures.steps some c.index-steps-steps.is in
    last-problem (λ (p : NamedProblem). is_taken c.args.label c.args.name.now p ≡ false) c.args.certificate.now c.index-steps-steps.result last some may.free

pub named_step-requires-clause-below : goal.named_step-requires-clause-below
named_step-requires-clause-below c =
    let may = may-name c.args.label c.args.name.now c.args.certificate.now c.requires in
    let some = not-nil c.steps-steps.result.now c.args.certificate.now.steps c.steps-steps.ensures.steps (sym c.if-is_empty.false ∙ c.is_empty.ensures) in
    let last = last-of c.args.certificate.now c.steps-steps.result.now c.index-steps-steps.result c.steps-steps.ensures.steps some c.index-steps-steps.is in
    last-below c.args.certificate.now c.index-steps-steps.result c.steps-steps.ensures.bound last

pub with_last-requires-clause-some : goal.with_last-requires-clause-some
with_last-requires-clause-some c =
    let may = may-name c.args.label c.args.name.now c.args.certificate.now c.requires in
    let some = not-nil c.steps-steps.result.now c.args.certificate.now.steps c.steps-steps.ensures.steps (sym c.if-is_empty.false ∙ c.is_empty.ensures) in
    let last = last-of c.args.certificate.now c.steps-steps.result.now c.index-steps-steps.result c.steps-steps.ensures.steps some c.index-steps-steps.is in
    last.some

pub with_last-requires-clause-bound : goal.with_last-requires-clause-bound
with_last-requires-clause-bound c =
    let may = may-name c.args.label c.args.name.now c.args.certificate.now c.requires in
    let some = not-nil c.steps-steps.result.now c.args.certificate.now.steps c.steps-steps.ensures.steps (sym c.if-is_empty.false ∙ c.is_empty.ensures) in
    let last = last-of c.args.certificate.now c.steps-steps.result.now c.index-steps-steps.result c.steps-steps.ensures.steps some c.index-steps-steps.is in
    ap is_bound (changed-last (named_step c.args.label c.args.name.now) c.args.certificate.now c.index-steps-steps.result c.in_ok-last.last last c.in_ok-last.ensures ∙ whole-named c.args.label c.args.name.now c.args.certificate.now some)
    ∙ named-bound c.args.certificate.now c.args.label c.args.name.now c.text-text.ensures.name c.requires c.steps-steps.ensures.bound c.over_problems.ensures.next

pub returns : goal.returns
returns c =
    let may = may-name c.args.label c.args.name.now c.args.certificate.now c.requires in
    let some = not-nil c.steps-steps.result.now c.args.certificate.now.steps c.steps-steps.ensures.steps (sym c.if-is_empty.false ∙ c.is_empty.ensures) in
    let last = last-of c.args.certificate.now c.steps-steps.result.now c.index-steps-steps.result c.steps-steps.ensures.steps some c.index-steps-steps.is in
    subst (λ (b : Bound). IfOk c.with_last.result (λ chain. chain ≡ b)) (changed-last (named_step c.args.label c.args.name.now) c.args.certificate.now c.index-steps-steps.result c.in_ok-last.last last c.in_ok-last.ensures ∙ whole-named c.args.label c.args.name.now c.args.certificate.now some) c.with_last.ensures
