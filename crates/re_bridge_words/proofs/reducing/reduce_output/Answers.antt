use Rattle.std.proofs.Common.{◌≡◌, ◌∙◌, subst, sym}
use Rattle.std.proofs.lemmas.Result.{IfOk-weaker}
use Rattle.re_bridge_words.specs.ReduceWords.{ReduceWorth, WorthBy}
use Rattle.re_frame.specs.Outcomes.{outcome_of}
use Rattle.re_frame.specs.declared.status.Status.TheVariants.{Done}
use Rattle.re_bridge_words.proofs.reducing.reduce_output.Goals as goal

pub returns-then-has_line-clause-text : goal.returns-then-has_line-clause-text
unfolding ReduceWorth
returns-then-has_line-clause-text c =
    IfOk-weaker c.given_output.result _ _
    (λ output worth. subst (λ b. (outcome_of output).status ≡ Done → WorthBy b c.args.text.now output.text.items) (sym (sym c.has_line.ensures ∙ c.if-has_line.true)) worth) c.given_output.ensures.text

pub returns-else-has_line-clause-text : goal.returns-else-has_line-clause-text
unfolding ReduceWorth
returns-else-has_line-clause-text c =
    IfOk-weaker c.plain_output.result _ _
    (λ output worth. subst (λ b. (outcome_of output).status ≡ Done → WorthBy b c.args.text.now output.text.items) (sym (sym c.has_line.ensures ∙ c.if-has_line.false)) worth) c.plain_output.ensures.text
