use Rattle.std.proofs.Common.{◌∙◌, ap, subst}
use Rattle.re_frame.specs.Outcomes.{outcome_of}
use Rattle.re_frame.specs.TextFaults.{fault_outcome}
use Rattle.re_given_words.proofs.ProductMeaning.{product_read, product_wrong}
use Rattle.re_settings.proofs.Answered.{both_ok}
use Rattle.re_settings.specs.GivenTexts.{GivenRefuses}
use Rattle.re_given_words.proofs.multiplying.product_output.Goals as goal

pub returns-in-Ok : goal.returns-in-Ok
returns-in-Ok c =
    both_ok c.meant_output.result _ _ _ (λ output e means. product_read c.args.text.now c.in-Ok.texts.problem c.in-Ok.texts.input (outcome_of output) c.in-Ok.ensures.0 c.in-Ok.ensures.1 c.in-Ok.ensures.2 e means)
    c.meant_output.ensures.answer c.meant_output.ensures.means

pub returns-in_ok-fault_output-in-Err-Bad : goal.returns-in_ok-fault_output-in-Err-Bad
returns-in_ok-fault_output-in-Err-Bad c =
    product_wrong c.args.text.now c.in-Err-Bad.fault (outcome_of c.in_ok-fault_output-in-Err-Bad.field-0) (subst (GivenRefuses c.args.text.now) c.in-Err-Bad.field-0-is c.in-Err-Bad.ensures)
    (c.in_ok-fault_output-in-Err-Bad.ensures ∙ ap fault_outcome c.in-Err-Bad.fault-is)
