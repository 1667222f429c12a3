use Rattle.std.proofs.Common.{◌≡◌, None, Some, subst}
use Rattle.std.proofs.lemmas.Result.{IfOk-weaker}
use Rattle.re_frame.specs.Outcomes.{outcome_of}
use Rattle.re_asking.specs.Beside.{AreDegreesOf, first_problem, front_fault}
use Rattle.re_asking.proofs.Besides.{none_wrong, one_wrong}
use Rattle.re_asking.proofs.beside.BesideFinding.find.Goals as goal
use Rattle.re_chains.specs.ChainTexts.{ReadRefuses}

pub returns-in-Ok-clause-output : goal.returns-in-Ok-clause-output
returns-in-Ok-clause-output g c =
    let beside = c.args.self.now in
    let bytes = c.args.text.items in
    let read = c.as_slice.ensures.value in
    IfOk-weaker c.degrees_answer.result _ _
    (λ output given. none_wrong (g.F.Finding.may beside.word) beside.front beside.input bytes (outcome_of output)
    (subst (λ text. front_fault beside.front text ≡ None) read c.in-Ok.ensures.0)
    (given (first_problem beside.front bytes) (subst (λ text. AreDegreesOf c.in-Ok.degrees (first_problem beside.front text)) read c.in-Ok.ensures.1)))
    c.degrees_answer.ensures.output

pub returns-in-Err-Bad-clause-output : goal.returns-in-Err-Bad-clause-output
returns-in-Err-Bad-clause-output g c =
    let beside = c.args.self.now in
    one_wrong (g.F.Finding.may beside.word) beside.front beside.input c.args.text.items (outcome_of c.in_ok-fault_output-in-Err-Bad.field-0) c.in-Err-Bad.fault
    (subst (λ text. front_fault beside.front text ≡ Some c.in-Err-Bad.fault) c.as_slice.ensures.value (subst (λ fault. ReadRefuses (front_fault beside.front c.as_slice.result.now) fault) c.in-Err-Bad.field-0-is c.in-Err-Bad.ensures)) c.in_ok-fault_output-in-Err-Bad.ensures
