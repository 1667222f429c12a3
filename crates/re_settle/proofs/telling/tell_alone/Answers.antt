use Rattle.std.proofs.Common.{ap, subst, ◌∙◌}
use Rattle.re_frame.specs.Outcomes.{outcome_of}
use Rattle.re_frame.specs.TextFaults.{fault_outcome}
use Rattle.re_problem.specs.TextReading.{ReadRefuses}
use Rattle.re_settle.proofs.Pieces.{fault_told}
use Rattle.re_settle.proofs.telling.tell_alone.Goals as goal

pub returns-in_ok-fault_output-in-Err-Bad-clause-told : goal.returns-in_ok-fault_output-in-Err-Bad-clause-told
returns-in_ok-fault_output-in-Err-Bad-clause-told c =
    fault_told c.args.word c.args.text.now c.in-Err-Bad.fault (outcome_of c.in_ok-fault_output-in-Err-Bad.field-0) c.requires.alone
    (subst (ReadRefuses c.args.text.now) c.in-Err-Bad.field-0-is c.in-Err-Bad.ensures) (c.in_ok-fault_output-in-Err-Bad.ensures ∙ ap fault_outcome c.in-Err-Bad.fault-is)
