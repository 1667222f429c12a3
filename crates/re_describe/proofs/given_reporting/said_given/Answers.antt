use Rattle.std.proofs.Common.{◌∙◌, ap, subst, sym}
use Rattle.std.proofs.lemmas.Result.{IfOk-weaker}
use Rattle.std.specs.Prelude.{IfOk}
use Rattle.re_describe.specs.GivenHeads.{given_check_text}
use Rattle.re_describe.specs.GivenReports.{SaysGiven, is_done}
use Rattle.re_frame.specs.Outcomes.{Outcome}
use Rattle.re_describe.proofs.given_reporting.said_given.Goals as goal

pub returns-in-Check : goal.returns-in-Check
returns-in-Check c =
    subst (λ block. IfOk c.given_check_text.result (λ text. SaysGiven c.args.input.now c.args.bound.now block text.items)) (sym c.in-Check.is)
    (IfOk-weaker c.given_check_text.result _ _ (λ text says. says ∙ ap given_check_text (c.is_done-holds.ensures ∙ ap (λ (o : Outcome). is_done o.status) c.requires.told)) c.given_check_text.ensures)
