use Rattle.std.proofs.Common.{◌≡◌, Err, refl, ap, ◌∙◌, subst}
use Rattle.re_cert.specs.Bounds.{has_row_maps}
use Rattle.std.specs.Result.{IsErrAnd}
use Rattle.re_shaping.specs.Stepped.{fault_of_step}
use Rattle.re_shaping.specs.declared.stepping.ChainStepFault.TheVariants.{Limit}
use Rattle.re_shaping.proofs.MoreSteps.{limit-from, limit-keeps, next-held, nothing-keeps}
use Rattle.re_shaping.proofs.stepping.step.Goals as goal

pub returns-in_err-derived-clause-limit : goal.returns-in_err-derived-clause-limit
returns-in_err-derived-clause-limit c = λ limit e.
    let gives = subst (λ r. IsErrAnd r (λ fault. fault ≡ fault_of_step c.in_err-derived.field-0.0)) e c.from_residual.ensures.1 in
    let same = limit-from c.in_err-derived.field-0.0 (Limit limit) limit gives refl in
    limit-keeps c.args.certificate.now c.steps.result.now c.last-last.result.now limit c.steps.ensures.steps c.if-steps-ge-MAX_STEPS.false c.last-last.ensures (c.in_err-derived.ensures.limit limit (ap Err same))

pub with_step-requires-clause-step : goal.with_step-requires-clause-step
with_step-requires-clause-step c =
    next-held c.args.certificate.now c.in_ok-step.step c.have_row_maps-by_row.result c.kind.result c.last-last.result.now c.in_ok-step.ensures
    (c.have_row_maps-by_row.ensures ∙ ap has_row_maps c.steps-2.ensures.steps) c.kind.ensures.kind c.last-last.ensures

pub with_step-requires-clause-room : goal.with_step-requires-clause-room
with_step-requires-clause-room c =
    nothing-keeps c.args.certificate.now c.steps.result.now c.last-last.result.now c.steps.ensures.steps c.if-steps-ge-MAX_STEPS.false c.last-last.ensures c.in_ok-derived.ensures.none

pub returns-clause-none : goal.returns-clause-none
returns-clause-none c =
    nothing-keeps c.args.certificate.now c.steps.result.now c.last-last.result.now c.steps.ensures.steps c.if-steps-ge-MAX_STEPS.false c.last-last.ensures c.in_ok-derived.ensures.none
