use Rattle.std.proofs.Common.{◌∙◌, ap, codes, subst}
use Rattle.re_frame.specs.Outcomes.{outcome_of}
use Rattle.re_frame.specs.TextFaults.{fault_outcome}
use Rattle.re_chains.specs.TwoTexts.{ReadRefuses}
use Rattle.re_settings.proofs.GivenMeans.{judged_fault, judged_texts}
use Rattle.re_settings.proofs.Answered.{both_ok}
use Rattle.re_settings.proofs.judging.bound_output.Goals as goal

pub returns-in-Ok : goal.returns-in-Ok
returns-in-Ok c =
    both_ok c.meant_output.result _ _ _ (λ output e means. judged_texts c.args.word c.args.text.now c.in-Ok.texts.problem c.in-Ok.texts.bound (outcome_of output) c.in-Ok.ensures.0 c.in-Ok.ensures.1 c.in-Ok.ensures.2 e means)
    c.meant_output.ensures.answer c.meant_output.ensures.means

pub returns-in_ok-fault_output-in-Err-Bad : goal.returns-in_ok-fault_output-in-Err-Bad
returns-in_ok-fault_output-in-Err-Bad c =
    judged_fault c.args.word c.args.text.now c.in-Err-Bad.fault (outcome_of c.in_ok-fault_output-in-Err-Bad.field-0) (subst (ReadRefuses (codes "given") c.args.text.now) c.in-Err-Bad.field-0-is c.in-Err-Bad.ensures)
    (c.in_ok-fault_output-in-Err-Bad.ensures ∙ ap fault_outcome c.in-Err-Bad.fault-is)
