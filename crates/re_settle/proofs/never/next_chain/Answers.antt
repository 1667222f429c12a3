use Rattle.std.proofs.Common.{◌≡◌, refl, sym, ◌∙◌}
use Rattle.re_settle.proofs.Unclosed.{end_by_fault, end_by_size}
use Rattle.re_shaping.specs.declared.stepping.ChainStepFault.TheVariants.{Limit, NoMemory, TooManySteps}
use Rattle.re_settle.proofs.never.next_chain.Goals as goal

pub returns-else-may_close-clause-none : goal.returns-else-may_close-clause-none
returns-else-may_close-clause-none c = λ none.
    end_by_size c.args.times c.args.chain.now.certificate c.in-Ok.next.certificate c.last.result.now c.may_close.result c.in-Ok.ensures.stepped c.last.ensures c.may_close.ensures c.if-may_close.false

pub returns-in-Err-TooManySteps-clause-none : goal.returns-in-Err-TooManySteps-clause-none
returns-in-Err-TooManySteps-clause-none c = λ none.
    let apart : c.in-Err-TooManySteps.field-0 ≡ NoMemory → ⊥ = λ e. let wrong : TooManySteps ≡ NoMemory = sym c.in-Err-TooManySteps.field-0-is ∙ e in cc in
    end_by_fault c.args.times c.args.chain.now.certificate c.in-Err-TooManySteps.field-0 (c.in-Err-TooManySteps.ensures.stop c.in-Err-TooManySteps.field-0 refl apart)

pub returns-in-Err-Limit-clause-none : goal.returns-in-Err-Limit-clause-none
returns-in-Err-Limit-clause-none c = λ none.
    let apart : c.in-Err-Limit.field-0 ≡ NoMemory → ⊥ = λ e. let wrong : Limit c.in-Err-Limit._passed ≡ NoMemory = sym c.in-Err-Limit.field-0-is ∙ e in cc in
    end_by_fault c.args.times c.args.chain.now.certificate c.in-Err-Limit.field-0 (c.in-Err-Limit.ensures.stop c.in-Err-Limit.field-0 refl apart)
