use Rattle.std.proofs.Common.{◌∙◌, ap, subst}
use Rattle.std.proofs.lemmas.Result.{IfOk-weaker}
use Rattle.re_frame.specs.Outcomes.{outcome_of}
use Rattle.re_frame.specs.TextFaults.{fault_outcome}
use Rattle.re_given_words.proofs.RoundsAnswers.{may_count, may_refuse}
use Rattle.re_given_words.specs.RoundsTexts.{RoundsRefuses}
use Rattle.re_given_words.proofs.rounds.rounds_output.Goals as goal

pub returns-in-Ok : goal.returns-in-Ok
returns-in-Ok c =
    IfOk-weaker c.beside_output.result _ _ (λ output may. may_count c.args.most c.args.text.now c.in-Ok.texts.problem c.in-Ok.texts.input (outcome_of output) c.in-Ok.ensures.0 c.in-Ok.ensures.1 c.in-Ok.ensures.2 may) c.beside_output.ensures

pub returns-in_ok-fault_output-in-Err-Bad : goal.returns-in_ok-fault_output-in-Err-Bad
returns-in_ok-fault_output-in-Err-Bad c =
    may_refuse c.args.most c.args.text.now c.in-Err-Bad.fault (outcome_of c.in_ok-fault_output-in-Err-Bad.field-0) (subst (RoundsRefuses c.args.text.now) c.in-Err-Bad.field-0-is c.in-Err-Bad.ensures)
    (c.in_ok-fault_output-in-Err-Bad.ensures ∙ ap fault_outcome c.in-Err-Bad.fault-is)
