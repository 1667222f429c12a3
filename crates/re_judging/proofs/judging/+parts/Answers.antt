use Rattle.std.proofs.Common.{◌-◌, arith}
use Rattle.std.proofs.lemmas.Result.{IfOk-weaker}
use Rattle.re_cert.proofs.ReadEntries.{none_is}
use Rattle.re_frame.specs.Outcomes.{outcome_of}
use Rattle.re_judging.proofs.JudgedTexts.{goes_next, goes_none}
use Rattle.re_judging.proofs.judging.+parts.Goals as goal

pub go_on-returns-in_default : goal.go_on-returns-in_default
go_on-returns-in_default t c =
    IfOk-weaker c.told_output.result _ _
    (λ output lines. goes_none c.args.left c.args.number c.args.problem.now c.args.text.now c.args.known (outcome_of output) (none_is _ _ c.in_default.not-Some c.joint_at.ensures.joint) lines) c.told_output.ensures

pub go_on-returns : goal.go_on-returns
go_on-returns t c =
    IfOk-weaker c.judged_by.result _ _
    (λ output answer. goes_next c.args.left (c.args.left - 1) c.args.number c.in-Some.at c.args.problem.now c.args.text.now c.behind_joint-behind.result.now c.first_part.result.now c.args.known
    c.in_ok-judged.judged (outcome_of output) (omega arith) c.in-Some.ensures.joint c.behind_joint-behind.ensures.bytes c.first_part.ensures.part c.in_ok-judged.ensures answer) c.judged_by.ensures
