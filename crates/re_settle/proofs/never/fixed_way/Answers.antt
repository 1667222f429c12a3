use Rattle.re_settle.proofs.Fixed.{unfixed_by_limit, unfixed_not_found, unfixed_without_text}
use Rattle.re_settle.proofs.Known.{fixed_known}
use Rattle.re_settle.proofs.never.fixed_way.Goals as goal

pub returns-then-has-clause-shown : goal.returns-then-has-clause-shown
returns-then-has-clause-shown c =
    fixed_known c.args.times c.args.problem.now c.in-Ok-Found.field-0 c.in-Ok-Found.certificate c.in-Ok-Found.field-0-is c.kind-kind.ensures.bound c.over_problems.ensures
    c.in-Ok-Found.ensures.answer c.in-Ok-Found.ensures.valid c.in-Ok-Found.ensures.means (c.in_ok-has-in-Ok-Found.ensures.text c.if-has.true)

pub returns-in-Ok-Found-clause-none : goal.returns-in-Ok-Found-clause-none
returns-in-Ok-Found-clause-none c = λ none.
    unfixed_without_text c.args.problem.now c.in-Ok-Found.field-0 c.in-Ok-Found.certificate c.in_ok-has-in-Ok-Found.has c.in-Ok-Found.field-0-is c.in-Ok-Found.ensures.answer
    c.in_ok-has-in-Ok-Found.ensures.whole c.if-has.false

pub returns-in-Ok-NotFound-clause-none : goal.returns-in-Ok-NotFound-clause-none
returns-in-Ok-NotFound-clause-none c = λ none.
    unfixed_not_found c.args.problem.now c.in-Ok-NotFound.field-0 c.in-Ok-NotFound._nodes c.in-Ok-NotFound._cut c.in-Ok-NotFound.field-0-is c.in-Ok-NotFound.ensures.answer

pub returns-in-Err-TooManyNodes-clause-none : goal.returns-in-Err-TooManyNodes-clause-none
returns-in-Err-TooManyNodes-clause-none c = λ none. unfixed_by_limit c.args.problem.now c.in-Err-TooManyNodes.field-0 c.in-Err-TooManyNodes.field-0-is c.in-Err-TooManyNodes.ensures.answer
