use Rattle.std.proofs.Common.{◌∙◌, Ok, Some, ap, length, subst}
use Rattle.std.proofs.lemmas.Result.{IfOk-weaker}
use Rattle.std.specs.Prelude.{IfOk}
use Rattle.re_cert.specs.Bounds.{last_problem}
use Rattle.re_chains.specs.HeldBounds.{held_bound}
use Rattle.re_chains.specs.OverChains.{IsJudged}
use Rattle.re_closure.proofs.Judged.{lower_may, refused_may, upper_may}
use Rattle.re_closure.specs.DiagramTexts.{AreEdges}
use Rattle.re_settings.specs.declared.setting.Setting.TheVariants.{Alone}
use Rattle.re_frame.specs.Outcomes.{outcome_of}
use Rattle.re_closure.proofs.answering.diagram_output.Goals as goal

pub returns-in-Ok-Lower : goal.returns-in-Ok-Lower
returns-in-Ok-Lower c = λ given is.
    IfOk-weaker c.raised_output.result _ _ (λ output may. lower_may given (Some c.args.edges.now) c.args.more Alone (outcome_of output) c.in-Ok-Lower.chain (subst (IsJudged given) (c.in-Ok-Lower.is ∙ ap Ok c.in-Ok-Lower.field-0-is) is) may) c.raised_output.ensures

pub returns-in-Ok-Upper : goal.returns-in-Ok-Upper
returns-in-Ok-Upper c = λ given is.
    IfOk-weaker c.not_lower_output.result _ _ (λ output e. upper_may given (Some c.args.edges.now) c.args.more Alone (outcome_of output) c.in-Ok-Upper.field-0-0 (subst (IsJudged given) (c.in-Ok-Upper.is ∙ ap Ok c.in-Ok-Upper.field-0-is) is) e) c.not_lower_output.ensures

pub returns : goal.returns
returns c = λ given is.
    refused_may given (Some c.args.edges.now) c.args.more Alone (outcome_of c.in_ok-verdict_output-in-Err.field-0) c.in-Err.verdict (subst (IsJudged given) c.in-Err.is is) c.in_ok-verdict_output-in-Err.ensures

pub raised_output-requires : goal.raised_output-requires
raised_output-requires c = subst (λ judged. IfOk judged (λ chain. AreEdges (length (last_problem (held_bound chain)).names) c.args.edges.now)) (c.in-Ok-Lower.is ∙ ap Ok c.in-Ok-Lower.field-0-is) c.requires
